-- `a_point`: the lent table is the specification's, and its entries are small.
use Prim.Native.Nat.{ℕ, ◌+◌, ◌*◌, ◌<◌}
use mathlib.Core.Path.{◌≡◌, ap, ap₂, ◌∙◌}
use mathlib.Core.List.{List}
use native.Mathlib.Omega.{arith}
use lib.IntN.{ℤ, pos}
use lib.ListN.{get_or}
use mir.Syntax.{w8, w32}
use mir.Val.{to_z, of_z}
use Rattle.points.specs.Points.{coordinates, a_point}
use Rattle.points.proofs.Signed.{reads}
use Rattle.points.proofs.Rule.{entry}
use Rattle.points.proofs.a_point.Goals as goal

-- an entry of the lent table, read at 8 bits
at8 : (l : List ℤ) (k : ℕ) → l ≡ coordinates → k < 512 → to_z w8 (of_z w8 (get_or l k (pos 0))) ≡ get_or coordinates k (pos 0)
at8 l k e h = ap (λ (l : List ℤ). to_z w8 (of_z w8 (get_or l k (pos 0)))) e ∙ reads w8 (get_or coordinates k (pos 0)) (omega (arith, (entry k h).1))

-- and taken to 32
value : (l : List ℤ) (k : ℕ) (z : ℤ) → z ≡ to_z w8 (of_z w8 (get_or l k (pos 0))) → l ≡ coordinates → k < 512 → to_z w32 (of_z w32 z) ≡ get_or coordinates k (pos 0)
value l k z is e h = ap (λ (z : ℤ). to_z w32 (of_z w32 z)) (is ∙ at8 l k e h) ∙ reads w32 (get_or coordinates k (pos 0)) (omega (arith, (entry k h).1))

pub returns : goal.returns
unfolding a_point
returns c =
    ap₂ (λ (a b : ℤ). record { x = a; y = b })
    (value c.args.t.now (c.args.w * 2) c.from.result c.from.ensures c.requires.0 (omega arith))
    (value c.args.t.now (c.args.w * 2 + 1) c.from-2.result c.from-2.ensures c.requires.0 (omega arith))
