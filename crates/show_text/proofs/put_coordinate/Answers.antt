-- `put_coordinate`: a coordinate has few digits.
use Rattle.phrases.proofs.Phrases.{next-near}
use Rattle.show_text.proofs.put_coordinate.Goals as goal

pub returns-clause-upper_bound : goal.returns-clause-upper_bound
returns-clause-upper_bound c = next-near _ c.next_whole.ensures
