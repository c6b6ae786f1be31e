-- The squared difference of a received coordinate from a point coordinate: as a number, and as the machine computes it. It leans on
-- the signed numbers of `points` and on the sizes of `distance`.
--   square_le           a bound on its square
--   square-fits .. square-reads   the machine's steps: each fits, and the last reads as the square
--   square-passed       the same of numbers that were passed on to a call
use mathlib.Core.Path.{◌≡◌, refl, sym, ap, ap₂, subst, ◌∙◌}
use Prim.Native.Nat.{ℕ, ◌+◌, ◌^◌, ◌≤◌, ◌<◌}
use native.Mathlib.Nat.{mul-le-mul}
use native.Mathlib.Omega.{arith}
use lib.Dec.{T}
use lib.IntN.{ℤ, pos, negsuc, nat_abs, ◌-ℤ◌, ◌*ℤ◌}
use lib.Signed.{non_neg}
use mir.Syntax.{Width, w16, w32}
use mir.Val.{SFits, Fits, hbits, to_z, of_z}
use mir.Facts.{to_z-of_z}
use Rattle.points.proofs.Signed.{fits, reads}
use Rattle.distance.specs.Distance.{difference, square}
use Rattle.distance.proofs.Rests.{Spread, sum, first, second, nat_abs-*, spread}

square-is : (z : ℤ) → z *ℤ z ≡ pos (square z)
square-is (pos n) = refl
square-is (negsuc n) = refl

spread-le : {d a b : ℕ} → Spread d a b → d ≤ a + b
spread-le (sum e) = omega arith
spread-le (first e) = omega arith
spread-le (second e) = omega arith

difference-le : (r c : ℤ) → nat_abs r ≤ 8192 → nat_abs c ≤ 39 → nat_abs (difference r c) ≤ 13184
difference-le r c g h = omega (arith, spread-le (spread r c))

pub square_le : (r c : ℤ) → nat_abs r ≤ 8192 → nat_abs c ≤ 39 → square (difference r c) ≤ 173817856
square_le r c g h = mul-le-mul (difference-le r c g h) (difference-le r c g h)

cast-reads : (v w : Width) (z : ℤ) → nat_abs z < 2 ^ hbits v → nat_abs z < 2 ^ hbits w → to_z w (of_z w (to_z v (of_z v z))) ≡ z
cast-reads v w z g h = ap (λ (y : ℤ). to_z w (of_z w y)) (reads v z g) ∙ reads w z h

-- the machine's squared difference, step by step
module _ (r c : ℤ) (g : nat_abs r ≤ 8192) (h : nat_abs c ≤ 39) where
  -- r and c, cast to 16 bits
  abbrev a : ℤ
  a = to_z w16 (of_z w16 (to_z w32 (of_z w32 r)))

  abbrev b : ℤ
  b = to_z w16 (of_z w16 (to_z w32 (of_z w32 c)))

  -- 128 c
  abbrev m : ℤ
  m = pos 128 *ℤ b

  m-is : m ≡ pos 128 *ℤ c
  m-is = ap (λ (z : ℤ). pos 128 *ℤ z) (cast-reads w32 w16 c (omega arith) (omega arith))

  pub scaled_fits : SFits w16 m
  scaled_fits = subst (SFits w16) (sym m-is) (fits w16 (pos 128 *ℤ c) (omega (arith, nat_abs-* (pos 128) c)))

  -- r - 128 c
  abbrev d : ℤ
  d = a -ℤ to_z w16 (of_z w16 m)

  d-is : d ≡ difference r c
  d-is = ap₂ (λ (y z : ℤ). y -ℤ z) (cast-reads w32 w16 r (omega arith) (omega arith)) (to_z-of_z scaled_fits ∙ m-is)

  pub difference-fits : SFits w16 d
  difference-fits = subst (SFits w16) (sym d-is) (fits w16 (difference r c) (omega (arith, difference-le r c g h)))

  d-reads : to_z w16 (of_z w16 d) ≡ difference r c
  d-reads = to_z-of_z difference-fits ∙ d-is

  pub cast-difference : SFits w32 (to_z w16 (of_z w16 d))
  cast-difference = subst (SFits w32) (sym d-reads) (fits w32 (difference r c) (omega (arith, difference-le r c g h)))

  -- its square, where z is the difference taken to 32 bits
  module _ (z : ℤ) (is : z ≡ to_z w16 (of_z w16 d)) where
    abbrev e : ℤ
    e = to_z w32 (of_z w32 z)

    s-is : e *ℤ e ≡ pos (square (difference r c))
    s-is = ap (λ (z : ℤ). z *ℤ z) (ap (λ (z : ℤ). to_z w32 (of_z w32 z)) is ∙ to_z-of_z cast-difference ∙ d-reads) ∙ square-is (difference r c)

    pub square-fits : SFits w32 (e *ℤ e)
    square-fits = subst (SFits w32) (sym s-is) (fits w32 (pos (square (difference r c))) (omega (arith, square_le r c g h)))

    s_reads : to_z w32 (of_z w32 (e *ℤ e)) ≡ pos (square (difference r c))
    s_reads = to_z-of_z square-fits ∙ s-is

    pub square-cast : T (non_neg (to_z w32 (of_z w32 (e *ℤ e)))) × Fits w32 (nat_abs (to_z w32 (of_z w32 (e *ℤ e))))
    square-cast = subst (λ (z : ℤ). T (non_neg z) × Fits w32 (nat_abs z)) (sym s_reads) (tt, record { fits = omega (arith, square_le r c g h) })

    pub square-reads : nat_abs (to_z w32 (of_z w32 (e *ℤ e))) ≡ square (difference r c)
    square-reads = ap nat_abs s_reads

  -- the squared difference of numbers that were passed on
  pub square-passed : square (difference (to_z w32 (of_z w32 r)) (to_z w32 (of_z w32 c))) ≡ square (difference r c)
  square-passed = ap₂ (λ (y z : ℤ). square (difference y z)) (reads w32 r (omega arith)) (reads w32 c (omega arith))
