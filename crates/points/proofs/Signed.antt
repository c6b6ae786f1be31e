-- Signed numbers of the machine by their absolute value, at every width: a number that is small enough fits, reads back as itself,
-- and its negative is the machine's.
--   fits, reads           z fits the width; its bits read back are z
--   neg-fits, neg-reads   the same of -z, which the machine computes as 0 - z
use mathlib.Core.Path.{◌≡◌, refl, sym, ap, subst, ◌∙◌}
use Prim.Native.Nat.{zero, suc, ◌^◌, ◌<◌}
use native.Mathlib.Omega.{arith}
use lib.IntN.{ℤ, pos, negsuc, neg_ℤ, nat_abs, ◌-ℤ◌, +ℤ_idl}
use mir.Syntax.{Width}
use mir.Val.{SFits, hbits, to_z, of_z}
use mir.Facts.{to_z-of_z}

pub nat_abs-neg : (z : ℤ) → nat_abs (neg_ℤ z) ≡ nat_abs z
nat_abs-neg (pos zero) = refl
nat_abs-neg (pos (suc n)) = refl
nat_abs-neg (negsuc n) = refl

pub neg-neg : (z : ℤ) → neg_ℤ (neg_ℤ z) ≡ z
neg-neg (pos zero) = refl
neg-neg (pos (suc n)) = refl
neg-neg (negsuc n) = refl

pub fits : (w : Width) (z : ℤ) → nat_abs z < 2 ^ hbits w → SFits w z
fits w (pos n) h = record { sfits = h }
fits w (negsuc n) h = record { sfits = omega arith }

pub reads : (w : Width) (z : ℤ) → nat_abs z < 2 ^ hbits w → to_z w (of_z w z) ≡ z
reads w z h = to_z-of_z (fits w z h)

module _ (w : Width) (z : ℤ) (h : nat_abs z < 2 ^ hbits w) where
  neg_is : pos 0 -ℤ to_z w (of_z w z) ≡ neg_ℤ z
  neg_is = ap (λ (v : ℤ). pos 0 -ℤ v) (reads w z h) ∙ +ℤ_idl (neg_ℤ z)

  pub neg-fits : SFits w (pos 0 -ℤ to_z w (of_z w z))
  neg-fits = subst (SFits w) (sym neg_is) (fits w (neg_ℤ z) (omega (arith, nat_abs-neg z)))

  pub neg-reads : to_z w (of_z w (pos 0 -ℤ to_z w (of_z w z))) ≡ neg_ℤ z
  neg-reads = to_z-of_z neg-fits ∙ neg_is
