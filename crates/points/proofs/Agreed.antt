-- What is agreed on has at most eight bits in each number.
use mathlib.Core.Path.{◌≡◌, sym, subst}
use mathlib.Core.Bool.{true}
use Prim.Native.Nat.{ℕ, ◌%◌, ◌≤◌}
use lib.Dec.{T, leb, eqb, leb→le}
use Rattle.wei.proofs.Finite.{and_left}
use Rattle.points.specs.declared.Map.{Map}
use Rattle.points.specs.declared.Map.TheVariants.{Round, Square}
use Rattle.points.specs.declared.Accord.{Accord}
use Rattle.points.specs.Agreed.{has_width, is_accord}

narrow : (n : Map) (u : ℕ) → T (has_width n u) → u ≤ 8
narrow Round u t = leb→le u 8 t
narrow Square u t = leb→le u 8 (and_left (leb u 8) (eqb (u % 2) 0) t)

pub width-le : (n : Map) (u : ℕ) → has_width n u ≡ true → u ≤ 8
width-le n u e = narrow n u (subst T (sym e) tt)

pub accord-width : (a : Accord) → is_accord a ≡ true → a.u ≤ 8
accord-width a e = width-le a.map a.u e
