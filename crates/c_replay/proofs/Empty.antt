-- A list with no place.
--   empty_set     a write to it
use mathlib.Core.Path.{◌≡◌, refl}
use mathlib.Core.List.{List, [], ◌∷◌}
use Prim.Native.Nat.{ℕ, ◌≤◌}
use native.Mathlib.Omega.{arith}
use lib.ListN.{length, set}

pub empty_set : (l : List ℕ) → length l ≤ 0 → l ≡ set l 0 0
empty_set [] h = refl
empty_set (x ∷ l) h = absurd (omega arith)
