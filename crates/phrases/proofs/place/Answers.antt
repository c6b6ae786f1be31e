-- `place`: the word, and the number.
use Rattle.std.proofs.Common.{arith}
use Rattle.page.proofs.Pages.{joined}
use Rattle.phrases.proofs.Phrases.{says-number}
use Rattle.phrases.proofs.place.Goals as goal

pub returns : goal.returns
returns c = joined (omega arith) c.put_text-p.ensures (says-number c.put_number.ensures)
