-- The comparisons with -8192 and 8192, and what `hear_coordinate` answers by them. It leans on proofs/Outcome.antt.
--   passed   where both comparisons pass, the cast is sound and gives the number to be heard
--   failed   where one fails, the coordinate is to be refused
use mathlib.Core.Path.{◌≡◌, refl, sym, ap, subst}
use Prim.Native.Nat.{ℕ, ◌+◌, ◌*◌, ◌≤◌}
use native.Mathlib.Nat.{le_antisymm, le_of_eq, le_trans, mul-le-mul_right}
use native.Mathlib.Omega.{arith}
use mathlib.Core.Bool.{Bool, true, false, not, ◌&&◌, ◌||◌}
use lib.IntN.{ℤ, pos, negsuc, nat_abs}
use lib.Dec.{T, ltb, eqb, le→leb, lt→ltb, nltb→le, eqb→eq}
use lib.Ieee.{Float, nan, inf, fin, binary32, up, down, le, neg, of_int, of_bits, fits, in_signed, in_float, to_signed}
use lib.Ieee.Fits.{down_pos, and_i, eq→eqb}
use lib.Ieee.Bits.{is_true}
use lib.Ieee.Exact.{HasValue}
use lib.Ieee.Back.{positive_back, negative_back}
use Rattle.samples.specs.Given.{GivenCoordinate, done, refused}
use Rattle.samples.specs.Heard.{heard_coordinate}
use Rattle.samples.proofs.Rounding.{tested_le}
use Rattle.samples.proofs.Value.{by_value, heard-value}
use Rattle.samples.proofs.Outcome.{converted, Outside, Outcome, within, outside, outcome, negative, integer-value}

-- -8192.0 and 8192.0
abbrev pub lowest : Float
lowest = neg (of_bits binary32 0x4600_0000)

abbrev pub highest : Float
highest = of_bits binary32 0x4600_0000

-- ---- a whole number in range passes both
le-tested : (a b : ℕ) (y : Bool) → (a ≡ b → T y) → a ≤ b → T (ltb a b || (y && true))
le-tested a b y g h = go (ltb a b) (nltb→le a b)
  where
    go : (x : Bool) → (T (not x) → b ≤ a) → T (x || (y && true))
    go true k = tt
    go false k = and_i y true (g (le_antisymm h (k tt))) tt

or-first : (x y : Bool) → T x → T (x || y)
or-first true y t = tt
or-first false y t = absurd t

value_passes : (w : Float) (s : Bool) (r : ℕ) → HasValue w s r 1 → r ≤ 8192 → T (le lowest w) × T (le w highest)
unfolding le neg of_bits
value_passes nan s r v h = absurd v
value_passes (inf t) s r v h = absurd v
value_passes (fin t m e) s r v h = go t
  where
    a : ℕ
    a = m * up e * 1

    b : ℕ
    b = 8192 * down e

    small : a ≤ b
    small = le_trans (le_of_eq v.1) (mul-le-mul_right (down e) h)

    go : (t : Bool) → T (le lowest (fin t m e)) × T (le (fin t m e) highest)
    go false = (or-first (ltb 0 (b + a)) _ (lt→ltb 0 (b + a) (omega (arith, down_pos e))), le-tested a b (eqb a b) (λ i. eq→eqb i) small)
    go true = (le-tested a b (eqb b a) (λ i. eq→eqb (sym i)) small, or-first (ltb 0 (a + b)) _ (lt→ltb 0 (a + b) (omega (arith, down_pos e))))

whole-passes : (z : ℤ) → nat_abs z ≤ 8192 → T (le lowest (of_int binary32 z)) × T (le (of_int binary32 z) highest)
whole-passes z h = value_passes (of_int binary32 z) (negative z) (nat_abs z) (integer-value z (omega arith)) h

-- ---- what lies outside fails one
outside-fails : (w : Float) → Outside w → T (le lowest w) → T (le w highest) → ⊥
unfolding le neg of_bits
outside-fails nan h p q = p
outside-fails (inf false) h p q = q
outside-fails (inf true) h p q = p
outside-fails (fin false m e) h p q =
    let a = m * up e * 1 in
    let b = 8192 * down e in
    omega (arith, down_pos e, tested_le a b (eqb a b) (eqb→eq a b) q)
outside-fails (fin true m e) h p q =
    let a = m * up e * 1 in
    let b = 8192 * down e in
    omega (arith, down_pos e, tested_le a b (eqb b a) (λ t. sym (eqb→eq b a t)) p)

-- ---- the cast
whole-casts : (z : ℤ) → nat_abs z ≤ 8192 → T (in_signed binary32 31 (of_int binary32 z)) × (to_signed 31 (of_int binary32 z) ≡ z)
unfolding in_float
whole-casts (pos n) h = positive_back binary32 31 n (le→leb n 16777216 (omega arith)) (omega arith)
whole-casts (negsuc n) h = negative_back binary32 31 n (lt→ltb n 16777216 (omega arith)) (omega arith)

-- ---- the answer
pub passed : (v : Float) → T (fits binary32 v) → le lowest (converted v) ≡ true → le (converted v) highest ≡ true →
    T (in_signed binary32 31 (converted v)) × (done (to_signed 31 (converted v)) ≡ heard_coordinate v)
passed v f p q = rw (heard-value v f) (go (converted v) (by_value v) p q (outcome v f))
  where
    go : (w : Float) (g : GivenCoordinate) → le lowest w ≡ true → le w highest ≡ true → Outcome w g → T (in_signed binary32 31 w) × (done (to_signed 31 w) ≡ g)
    go w g p q (within z h e) = rw e ((whole-casts z h).0, ap done (whole-casts z h).1)
    go w g p q (outside h) = absurd (outside-fails w h (subst T (sym p) tt) (subst T (sym q) tt))

pub failed : (v : Float) → T (fits binary32 v) → (le lowest (converted v) ≡ true → le (converted v) highest ≡ true → ⊥) → refused ≡ heard_coordinate v
failed v f k = rw (heard-value v f) (go (converted v) (by_value v) k (outcome v f))
  where
    go : (w : Float) (g : GivenCoordinate) → (le lowest w ≡ true → le w highest ≡ true → ⊥) → Outcome w g → refused ≡ g
    go w g k (within z h e) = absurd (k (is_true (le lowest w) (rw e (whole-passes z h).0)) (is_true (le w highest) (rw e (whole-passes z h).1)))
    go w g k (outside h) = refl
