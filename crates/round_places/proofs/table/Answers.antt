-- `table`: the constant table is the list of the specification.
use mathlib.Core.Path.{refl}
use Rattle.round_places.specs.Places.{listed}
use Rattle.round_places.proofs.table.Goals as goal

pub returns : goal.returns
unfolding listed
returns c = refl
