-- a word: a space, and its digits.
use Rattle.std.proofs.Common.{arith, ap}
use Rattle.page.proofs.Pages.{joined}
use Rattle.phrases.specs.Phrase.{decimal}
use Rattle.phrases.proofs.Phrases.{says-number, puts-as}
use Rattle.phrases.proofs.U32Number.put.Goals as goal

pub returns-clause-puts : goal.returns-clause-puts
returns-clause-puts c = joined (omega arith) c.put_byte-p.ensures (puts-as (ap decimal c.from.ensures) (says-number c.put_number.ensures))
