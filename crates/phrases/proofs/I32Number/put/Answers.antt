-- a whole number: its text is short.
use Rattle.phrases.proofs.Phrases.{next-near}
use Rattle.phrases.proofs.I32Number.put.Goals as goal

pub returns-clause-near : goal.returns-clause-near
returns-clause-near c = next-near _ c.next_whole.ensures
