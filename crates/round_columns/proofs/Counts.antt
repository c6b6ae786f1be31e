-- Received coordinates and point coordinates, counted in natural numbers from 95 units below zero, where signed differences are
-- differences of counts.
--   away                 how far a received coordinate is from a point coordinate, by the counts
--   count-in             a count's bounds
--   count-mirror         the count of -z
--   stand-fours          the coordinates of A points stand at multiples of 4
--   sum_fits, sum-cast, sum-reads   the machine's z + 12160
use mathlib.Core.Path.{◌≡◌, refl, sym, ap, subst, ◌∙◌}
use mathlib.Core.Bool.{Bool, true, false, cond}
use Prim.Native.Nat.{ℕ, zero, suc, ◌-◌, ◌*◌, ◌%◌, ◌≤◌}
use native.Mathlib.Nat.{add_comm}
use native.Mathlib.Omega.{arith}
use borrow.Author.Tests.{ltb-true, ltb-false}
use lib.Dec.{T, ltb}
use lib.IntN.{ℤ, pos, negsuc, neg_ℤ, nat_abs, sub_ℕ, ◌-ℤ◌, ◌+ℤ◌, ◌*ℤ◌}
use lib.Signed.{non_neg}
use mir.Syntax.{w32}
use mir.Val.{SFits, Fits, to_z, of_z}
use mir.Facts.{to_z-of_z}
use Rattle.points.specs.Points.{mod4}
use Rattle.points.proofs.Signed.{fits, reads}
use Rattle.round_places.specs.Places.{stand_of}
use Rattle.round_columns.specs.Cells.{count_of, apart_of, Counted}

sub-size : (a b : ℕ) → nat_abs (sub_ℕ a b) ≡ apart_of a b
sub-size a b = go (ltb a b) refl
  where
    go : (t : Bool) → ltb a b ≡ t → nat_abs (cond t (negsuc (b - suc a)) (pos (a - b))) ≡ apart_of a b
    go true e = let h = ltb-true a b e in omega arith
    go false e = let h = ltb-false a b e in omega arith

minus-size : (x y : ℤ) → nat_abs x ≤ 12160 → nat_abs y ≤ 12160 → nat_abs (x -ℤ y) ≡ apart_of (count_of x) (count_of y)
minus-size (pos a) (pos zero) g h = omega arith
minus-size (pos a) (pos (suc b)) g h = omega (arith, sub-size a (suc b))
minus-size (pos a) (negsuc b) g h = omega arith
minus-size (negsuc a) (pos zero) g h = omega (arith, sub-size 0 (suc a))
minus-size (negsuc a) (pos (suc b)) g h = omega arith
minus-size (negsuc a) (negsuc b) g h = omega (arith, sub-size (suc b) (suc a))

neg-count : (m : ℕ) → m ≤ 12160 → (count_of (neg_ℤ (pos m)) ≡ 12160 - m) × (nat_abs (neg_ℤ (pos m)) ≡ m)
neg-count zero h = (refl, refl)
neg-count (suc m) h = (omega arith, refl)

scaled : (c : ℤ) → nat_abs c ≤ 39 → (count_of (pos 128 *ℤ c) ≡ 128 * stand_of c) × (nat_abs (pos 128 *ℤ c) ≤ 12160)
scaled (pos n) h = (omega arith, omega arith)
scaled (negsuc n) h = let e = neg-count (128 * suc n) (omega arith) in (omega (arith, e.0), omega (arith, e.1))

pub away : (z c : ℤ) → nat_abs z ≤ 8192 → nat_abs c ≤ 39 → nat_abs (z -ℤ pos 128 *ℤ c) ≡ apart_of (count_of z) (128 * stand_of c)
away z c g h =
    let e = scaled c h in
    minus-size z (pos 128 *ℤ c) (omega arith) e.1 ∙ ap (apart_of (count_of z)) e.0

pub count-in : (z : ℤ) → nat_abs z ≤ 8192 → Counted (count_of z)
count-in (pos n) h = record { low = omega arith; high = omega arith }
count-in (negsuc n) h = record { low = omega arith; high = omega arith }

pub count-mirror : (z : ℤ) → nat_abs z ≤ 8192 → count_of (neg_ℤ z) ≡ 24320 - count_of z
count-mirror (pos zero) h = refl
count-mirror (pos (suc n)) h = omega arith
count-mirror (negsuc n) h = omega arith

-- a coordinate of an A point stands at a multiple of 4
pub stand-fours : (c : ℤ) → mod4 c ≡ 1 → nat_abs c ≤ 39 → stand_of c % 4 ≡ 0
stand-fours (pos n) e h = omega arith
stand-fours (negsuc n) e h = omega arith

-- ---- the machine's z + 12160

above : (a b : ℕ) → b ≤ a → sub_ℕ a b ≡ pos (a - b)
above a b h = go (ltb a b) refl
  where
    go : (t : Bool) → ltb a b ≡ t → cond t (negsuc (b - suc a)) (pos (a - b)) ≡ pos (a - b)
    go true e = absurd (omega (arith, ltb-true a b e))
    go false e = refl

shifted : (z : ℤ) → nat_abs z ≤ 8192 → z +ℤ pos 12160 ≡ pos (count_of z)
shifted (pos n) h = ap pos (add_comm n 12160)
shifted (negsuc n) h = above 12160 (suc n) (omega arith) ∙ ap pos (omega arith)

module _ (z : ℤ) (h : nat_abs z ≤ 8192) where
  abbrev sum : ℤ
  sum = to_z w32 (of_z w32 z) +ℤ pos 12160

  sum_is : sum ≡ pos (count_of z)
  sum_is = ap (λ (v : ℤ). v +ℤ pos 12160) (reads w32 z (omega arith)) ∙ shifted z h

  pub sum_fits : SFits w32 sum
  sum_fits = subst (SFits w32) (sym sum_is) (fits w32 (pos (count_of z)) (omega (arith, (count-in z h).high)))

  sum-reads-back : to_z w32 (of_z w32 sum) ≡ pos (count_of z)
  sum-reads-back = to_z-of_z sum_fits ∙ sum_is

  pub sum-cast : T (non_neg (to_z w32 (of_z w32 sum))) × Fits w32 (nat_abs (to_z w32 (of_z w32 sum)))
  sum-cast = subst (λ (v : ℤ). T (non_neg v) × Fits w32 (nat_abs v)) (sym sum-reads-back) (tt, record { fits = omega (arith, (count-in z h).high) })

  pub sum-reads : nat_abs (to_z w32 (of_z w32 sum)) ≡ count_of z
  sum-reads = ap nat_abs sum-reads-back
