-- `check`: the tests in order, each of which decides where it fails; what is accepted is said by the theorems.
use Rattle.std.proofs.Common.{rules}
use Rattle.card.specs.Promise.{card_of}
use Rattle.card.specs.Check.{accepts}
use Rattle.card.proofs.Theorems.{checks}
use Rattle.card.proofs.check.Goals as goal

pub returns-then-not-lengths_fit : goal.returns-then-not-lengths_fit
unfolding accepts
returns-then-not-lengths_fit c = let a = c.args in checks a.k (card_of a.coordinates.now a.states.now a.symbols.now a.numbers.now) _ (search rules)

pub returns-then-not-is_accord : goal.returns-then-not-is_accord
unfolding accepts
returns-then-not-is_accord c = let a = c.args in checks a.k (card_of a.coordinates.now a.states.now a.symbols.now a.numbers.now) _ (search rules)

pub returns : goal.returns
unfolding accepts
returns c = let a = c.args in checks a.k (card_of a.coordinates.now a.states.now a.symbols.now a.numbers.now) _ (search rules)
