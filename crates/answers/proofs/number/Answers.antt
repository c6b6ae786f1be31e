-- `number`: the number, and the end of the line.
use Rattle.std.proofs.Common.{arith}
use Rattle.page.proofs.Pages.{joined}
use Rattle.phrases.proofs.Phrases.{says-number}
use Rattle.answers.proofs.number.Goals as goal

pub returns : goal.returns
returns c = joined (omega arith) (says-number c.put_number-p.ensures) c.end.ensures
