-- `table::a_points`: the constant table is the list of the specification.
use mathlib.Core.Path.{refl}
use Rattle.points.specs.Points.{coordinates}
use Rattle.points.proofs.table.a_points.Goals as goal

pub returns : goal.returns
unfolding coordinates
returns c = refl
