-- `nearer_type`: the test that picks is the one by which the theory's `least` picks.
use borrow.Author.Tests.{lt-ltb, le-ltb}
use Rattle.trellis.specs.Pick.{least}
use Rattle.subset_types.specs.Types.{nearer_of}
use Rattle.subset_types.proofs.nearer_type.Goals as goal

pub returns-then-other-one : goal.returns-then-other-one
unfolding nearer_of least
returns-then-other-one c = simp (← c.type_sum-other.ensures, ← c.type_sum-one.ensures, lt-ltb _ _ c.if-other-one.true)

pub returns-else-other-one : goal.returns-else-other-one
unfolding nearer_of least
returns-else-other-one c = simp (← c.type_sum-other.ensures, ← c.type_sum-one.ensures, le-ltb _ _ c.if-other-one.false)
