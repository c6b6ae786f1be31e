-- Tables IV-2, IV-5 and IV-6 of 000 (specs/Tables) are what the rules give, each as one whole table.
use mathlib.Core.Path.{◌≡◌, refl}
use mathlib.Core.List.{List, [], ◌∷◌, map}
use Prim.Native.Nat.{ℕ, zero, suc, ◌/◌, ◌%◌}
use lib.ListN.{get_or}
use Rattle.wei.specs.State.{next_state, before, carry_i1, carry_i2, between}
use Rattle.wei.specs.Label.{turn_of, second_label}
use Rattle.wei.specs.Tables.{label_of_z, table_iv2, table_iv5, table_iv6}

-- f at i, i + 1, and so on: n rows
unfoldable pub rows : ℕ → ℕ → (ℕ → List ℕ) → List (List ℕ)
rows zero i f = []
rows (suc n) i f = f i ∷ rows n (suc i) f

-- a printed row of Table IV-2: its four bits, and the two labels that its Z columns give
abbrev pub read : List ℕ → List ℕ
read r = get_or r 0 0 ∷ get_or r 1 0 ∷ get_or r 2 0 ∷ get_or r 3 0 ∷ label_of_z (get_or r 5 0) (get_or r 4 0) ∷ label_of_z (get_or r 7 0) (get_or r 6 0) ∷ []

-- the row with the bits Y0 I1 I2' I3' by the rule
abbrev pub ruled : ℕ → ℕ → ℕ → ℕ → List ℕ
ruled y0 i1 i2 i3 = y0 ∷ i1 ∷ i2 ∷ i3 ∷ turn_of i2 i3 ∷ second_label (turn_of i2 i3) y0 i1 ∷ []

pub table-IV-2 : map read table_iv2 ≡ rows 16 0 (λ r. ruled (r / 8) (r / 4 % 2) (r / 2 % 2) (r % 2))
unfolding rows table_iv2 label_of_z second_label
table-IV-2 = refl

pub table-IV-5 : table_iv5 ≡ rows 16 0 (λ s. next_state s 0 0 ∷ next_state s 0 1 ∷ next_state s 1 0 ∷ next_state s 1 1 ∷ [])
unfolding rows table_iv5 next_state
table-IV-5 = refl

-- a state that leads to t, and the subset of the step
abbrev pub from : ℕ → ℕ → List ℕ → List ℕ
from t k l = before t k ∷ between (before t k) t ∷ l

pub table-IV-6 : table_iv6 ≡ rows 16 0 (λ t. from t 0 (from t 1 (from t 2 (from t 3 []))))
unfolding rows table_iv6 before between carry_i1 carry_i2
table-IV-6 = refl
