-- `is_open`: the parts decide.
use Rattle.machine.specs.Machine.{sound}
use Rattle.openings.proofs.is_open.Goals as goal

pub returns : goal.returns
unfolding sound
returns c = c.parts_fit.ensures
