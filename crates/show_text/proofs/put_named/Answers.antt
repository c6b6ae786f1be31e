-- `put_named`: the text, and the number.
use Rattle.std.proofs.Common.{arith}
use Rattle.page.proofs.Pages.{joined}
use Rattle.phrases.proofs.Phrases.{says-number}
use Rattle.show_text.proofs.put_named.Goals as goal

pub returns-clause-puts : goal.returns-clause-puts
returns-clause-puts c = joined (omega arith) c.put_text-p.ensures (says-number c.put_number.ensures)
