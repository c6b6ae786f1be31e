-- `origin`: a received coordinate plus 8576 is above 0.
use mathlib.Core.Path.{◌≡◌, sym, ap, subst, ◌∙◌}
use Prim.Native.Nat.{◌≤◌}
use native.Mathlib.Omega.{arith}
use lib.Dec.{T}
use lib.IntN.{ℤ, pos, nat_abs, ◌+ℤ◌}
use lib.Signed.{non_neg}
use mir.Syntax.{w32}
use mir.Val.{SFits, Fits, to_z, of_z}
use Rattle.points.proofs.Signed.{fits, reads}
use Rattle.square_search.specs.Axis.{origin_of}
use Rattle.square_search.proofs.Signed.{origin-in, origin-pos}
use Rattle.square_search.proofs.origin.Goals as goal

-- what the code computes
module _ (r : ℤ) (h : nat_abs r ≤ 8192) where
  abbrev code : ℤ
  code = to_z w32 (of_z w32 r) +ℤ pos 8576

  code_is : code ≡ pos (origin_of r)
  code_is = ap (λ (z : ℤ). z +ℤ pos 8576) (reads w32 r (omega arith)) ∙ origin-pos r h

  code_fits : SFits w32 code
  code_fits = subst (SFits w32) (sym code_is) (fits w32 (pos (origin_of r)) (omega (arith, (origin-in r h).1)))

  code_reads : to_z w32 (of_z w32 code) ≡ pos (origin_of r)
  code_reads = ap (λ (z : ℤ). to_z w32 (of_z w32 z)) code_is ∙ reads w32 (pos (origin_of r)) (omega (arith, (origin-in r h).1))

  code-cast : T (non_neg (to_z w32 (of_z w32 code))) × Fits w32 (nat_abs (to_z w32 (of_z w32 code)))
  code-cast = subst (λ (z : ℤ). T (non_neg z) × Fits w32 (nat_abs z)) (sym code_reads) (tt, record { fits = omega (arith, (origin-in r h).1) })

pub returns : goal.returns
returns c = ap nat_abs (code_reads c.args.r c.requires)
