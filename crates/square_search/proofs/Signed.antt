-- The difference of a received coordinate from a point coordinate, in natural numbers: both are moved up, by 8576 = 128 · 67 and by 67,
-- so that neither is below 0.
--   moved           the difference after both were moved
--   origin-in, origin-pos   where a received coordinate is then
use mathlib.Core.Path.{◌≡◌, refl, ap, ◌∙◌}
use mathlib.Core.Bool.{Bool, true, false, cond}
use Prim.Native.Nat.{ℕ, zero, suc, ◌+◌, ◌-◌, ◌*◌, ◌≤◌}
use native.Mathlib.Omega.{arith}
use borrow.Author.Tests.{ltb-true, ltb-false}
use lib.Dec.{ltb}
use lib.IntN.{ℤ, pos, negsuc, neg_ℤ, nat_abs, sub_ℕ, ◌-ℤ◌, ◌+ℤ◌, ◌*ℤ◌, neg_ℤ-neg_ℤ}
use Rattle.square_search.specs.Axis.{origin_of, between_of}

sub_is : (a b : ℕ) → nat_abs (sub_ℕ a b) ≡ between_of a b
sub_is a b = go (ltb a b) refl
  where
    go : (t : Bool) → ltb a b ≡ t → nat_abs (cond t (negsuc (b - suc a)) (pos (a - b))) ≡ between_of a b
    go true e = omega (arith, ltb-true a b e)
    go false e = omega (arith, ltb-false a b e)

pos-pos : (a b : ℕ) → nat_abs (pos a -ℤ pos b) ≡ between_of a b
pos-pos a zero = omega arith
pos-pos a (suc b) = sub_is a (suc b)

neg-pos : (a b : ℕ) → nat_abs (negsuc a -ℤ pos b) ≡ suc a + b
neg-pos a zero = sub_is 0 (suc a) ∙ omega arith
neg-pos a (suc b) = omega arith

-- what is taken away from below 0 is added
added : (z : ℤ) (k : ℕ) → nat_abs (z -ℤ neg_ℤ (pos k)) ≡ nat_abs (z +ℤ pos k)
added z k = ap (λ (y : ℤ). nat_abs (z +ℤ y)) (neg_ℤ-neg_ℤ (pos k))

-- of two equal sums, the first parts differ by what the second parts do
balanced : (k n o a c : ℕ) → k + a ≡ c → o + n ≡ c → between_of k n ≡ between_of o a
balanced k n o a c e f = omega arith

pub origin-in : (r : ℤ) → nat_abs r ≤ 8192 → (384 ≤ origin_of r) × (origin_of r ≤ 16768)
unfolding origin_of
origin-in (pos a) h = (omega arith, omega arith)
origin-in (negsuc a) h = (omega (arith, sub_is 8576 (suc a)), omega (arith, sub_is 8576 (suc a)))

pub origin-pos : (r : ℤ) → nat_abs r ≤ 8192 → r +ℤ pos 8576 ≡ pos (origin_of r)
unfolding origin_of
origin-pos (pos a) h = refl
origin-pos (negsuc a) h = go (ltb 8576 (suc a)) refl
  where
    go : (t : Bool) → ltb 8576 (suc a) ≡ t → cond t (negsuc (suc a - suc 8576)) (pos (8576 - suc a)) ≡ pos (nat_abs (cond t (negsuc (suc a - suc 8576)) (pos (8576 - suc a))))
    go true e = absurd (omega (arith, ltb-true 8576 (suc a) e))
    go false e = refl

-- r - 128 (a - 67) is r + 8576 - 128 a
pub moved : (r : ℤ) (a : ℕ) → nat_abs r ≤ 8192 → nat_abs (r -ℤ pos 128 *ℤ (pos a -ℤ pos 67)) ≡ between_of (origin_of r) (128 * a)
unfolding origin_of
moved r a h = go (ltb a 67) refl r h
  where
    go : (t : Bool) → ltb a 67 ≡ t → (r : ℤ) → nat_abs r ≤ 8192 → nat_abs (r -ℤ pos 128 *ℤ cond t (negsuc (67 - suc a)) (pos (a - 67))) ≡ between_of (nat_abs (r +ℤ pos 8576)) (128 * a)
    go true e (pos n) h = added (pos n) (128 * suc (67 - suc a)) ∙ omega (arith, ltb-true a 67 e)
    go true e (negsuc n) h =
        let o : nat_abs (sub_ℕ 8576 (suc n)) + suc n ≡ 8576 = omega (arith, sub_is 8576 (suc n)) in
        let k : 128 * suc (67 - suc a) + 128 * a ≡ 8576 = omega (arith, ltb-true a 67 e) in
        added (negsuc n) (128 * suc (67 - suc a))
        ∙ sub_is (128 * suc (67 - suc a)) (suc n)
        ∙ balanced (128 * suc (67 - suc a)) (suc n) (nat_abs (sub_ℕ 8576 (suc n))) (128 * a) 8576 k o
    go false e (pos n) h = pos-pos n (128 * (a - 67)) ∙ omega (arith, ltb-false a 67 e)
    go false e (negsuc n) h = neg-pos n (128 * (a - 67)) ∙ omega (arith, ltb-false a 67 e, sub_is 8576 (suc n))
