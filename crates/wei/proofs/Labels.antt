-- Labels: the table of types is the rule modulo 4, the turn and its difference undo one another, and the labels of a symbol's two
-- points fix its bits.
--   type-rule       the table of types and the rule give the same pair
--   turn-back       IV-5 undoes IV-4
--   since-below     what is said of the turn is below 4
--   labels_apart    valid symbols with the same labels and numbers are equal
use mathlib.Core.Path.{◌≡◌, sym, ap₂, ◌∙◌}
use mathlib.Core.Bool.{Bool, true, false, cond}
use Prim.Native.Nat.{ℕ, ◌+◌, ◌-◌, ◌*◌, ◌/◌, ◌%◌, ◌<◌}
use native.Mathlib.Omega.{arith}
use lib.Dec.{eqb}
use lib.ListN.{get_or}
use Rattle.wei.specs.Label.{turn_of, turn_on, turn_from, unknown, turn_since, second_label, pair_of, types, type_row, type_of}
use Rattle.wei.specs.Symbol.{Symbol, first_label, last_label, Valid}
use Rattle.wei.proofs.Finite.{equal3, equal4}

pub type-rule : (y0 i1 i2 i3 : ℕ) → y0 < 2 → i1 < 2 → i2 < 2 → i3 < 2 → type_of y0 i1 i2 i3 ≡ pair_of (turn_of i2 i3) (second_label (turn_of i2 i3) y0 i1)
unfolding type_of types second_label
type-rule y0 i1 i2 i3 h₀ h₁ h₂ h₃ =
    ap₂ pair_of
    (equal4 2 2 2 2 (λ a b c d. get_or types (type_row a b c d * 2) 0) (λ a b c d. turn_of c d) tt y0 i1 i2 i3 h₀ h₁ h₂ h₃)
    (equal4 2 2 2 2 (λ a b c d. get_or types (type_row a b c d * 2 + 1) 0) (λ a b c d. second_label (turn_of c d) a b) tt y0 i1 i2 i3 h₀ h₁ h₂ h₃)

pub second_below : (q y0 i1 : ℕ) → second_label q y0 i1 < 4
unfolding second_label
second_below q y0 i1 = omega arith

pub turn-back : (q i2 i3 : ℕ) → q < 4 → i2 < 2 → i3 < 2 → turn_from q (turn_on q i2 i3) ≡ turn_of i2 i3
turn-back = equal3 4 2 2 (λ q b c. turn_from q (turn_on q b c)) (λ q b c. turn_of b c) tt

-- the four bits, read off the two labels
back_y0 : ℕ → ℕ → ℕ
back_y0 a b = (b + 4 - a) % 4 % 2

back_i1 : ℕ → ℕ → ℕ
back_i1 a b = (b + 4 - a) % 4 / 2

back-y0 : (y0 i1 i2 i3 : ℕ) → y0 < 2 → i1 < 2 → i2 < 2 → i3 < 2 → back_y0 (turn_of i2 i3) (second_label (turn_of i2 i3) y0 i1) ≡ y0
unfolding back_y0 second_label
back-y0 = equal4 2 2 2 2 (λ a b c d. back_y0 (turn_of c d) (second_label (turn_of c d) a b)) (λ a b c d. a) tt

back-i1 : (y0 i1 i2 i3 : ℕ) → y0 < 2 → i1 < 2 → i2 < 2 → i3 < 2 → back_i1 (turn_of i2 i3) (second_label (turn_of i2 i3) y0 i1) ≡ i1
unfolding back_i1 second_label
back-i1 = equal4 2 2 2 2 (λ a b c d. back_i1 (turn_of c d) (second_label (turn_of c d) a b)) (λ a b c d. b) tt

pub labels_apart : (u v : ℕ) (c d : Symbol) → Valid u c → Valid v d → first_label c ≡ first_label d → last_label c ≡ last_label d → c.w1 ≡ d.w1 → c.w2 ≡ d.w2 → c ≡ d
unfolding last_label
labels_apart u v c d p q e₁ e₂ e₃ e₄ =
    let z₀ : c.y0 ≡ d.y0 =
    sym (back-y0 c.y0 c.i1 c.i2 c.i3 p.y0-below p.i1-below p.i2-below p.i3-below) ∙ ap₂ back_y0 e₁ e₂
    ∙ back-y0 d.y0 d.i1 d.i2 d.i3 q.y0-below q.i1-below q.i2-below q.i3-below in
    let z₁ : c.i1 ≡ d.i1 =
    sym (back-i1 c.y0 c.i1 c.i2 c.i3 p.y0-below p.i1-below p.i2-below p.i3-below) ∙ ap₂ back_i1 e₁ e₂
    ∙ back-i1 d.y0 d.i1 d.i2 d.i3 q.y0-below q.i1-below q.i2-below q.i3-below in
    let z₂ : c.i2 ≡ d.i2 = omega (arith, e₁, p.i2-below, q.i2-below) in
    let z₃ : c.i3 ≡ d.i3 = omega (arith, e₁, p.i2-below, q.i2-below) in
    λ i. record { y0 = z₀ i; i1 = z₁ i; i2 = z₂ i; i3 = z₃ i; w1 = e₃ i; w2 = e₄ i }

-- what a word says of the turn has two bits
pub since-below : (q l : ℕ) → turn_since q l < 4
since-below q l = go (eqb q unknown)
  where
    go : (b : Bool) → cond b 0 (turn_from q l) < 4
    go true = omega arith
    go false = omega arith
