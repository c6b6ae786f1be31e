-- `turned_back`: a coordinate in range is negated without harm.
use mathlib.Core.Path.{sym, ap₂, subst}
use native.Mathlib.Omega.{arith}
use lib.IntN.{ℤ}
use mir.Syntax.{w32}
use Rattle.points.proofs.Signed.{reads, neg-reads}
use Rattle.distance.specs.declared.Spot.{Spot}
use Rattle.distance.specs.Distance.{SpotInRange}
use Rattle.round_search.specs.Key.{turned_back}
use Rattle.round_search.proofs.Distances.{back-in-range}
use Rattle.round_search.proofs.line.turned_back.Goals as goal

pub returns : goal.returns
unfolding turned_back
returns c =
    let is = ap₂ {C = Spot} (λ (a b : ℤ). record { x = a; y = b }) (neg-reads w32 c.args.h.y (omega arith)) (reads w32 c.args.h.x (omega arith)) in
    (is, subst SpotInRange (sym is) (back-in-range c.args.h c.requires))
