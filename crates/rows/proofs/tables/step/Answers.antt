-- `tables::step`: a state before t is a state.
use Rattle.wei.proofs.States.{before-below}
use Rattle.rows.proofs.tables.step.Goals as goal

pub subset_between-c-requires : goal.subset_between-c-requires
subset_between-c-requires c = (rw c.before_state-s.ensures (before-below _ _ c.requires.0 c.requires.1), c.requires.0)
