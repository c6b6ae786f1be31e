-- `rounded`: the test's value picks.
use borrow.Author.Tests.{eq-eqb, ne_eqb}
use Rattle.square_search.specs.Axis.{rounded_of}
use Rattle.square_search.proofs.rounded.Goals as goal

pub returns-then-g-eq8448 : goal.returns-then-g-eq8448
unfolding rounded_of
returns-then-g-eq8448 c = simp (eq-eqb _ _ c.if-g-eq8448.true)

pub returns-else-g-eq8448 : goal.returns-else-g-eq8448
unfolding rounded_of
returns-else-g-eq8448 c = simp (ne_eqb _ _ c.if-g-eq8448.false)
