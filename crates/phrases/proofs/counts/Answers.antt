-- `counts`: two numbers, a space after each.
use Rattle.std.proofs.Common.{arith}
use Rattle.page.proofs.Pages.{joined}
use Rattle.phrases.proofs.Phrases.{says-number}
use Rattle.phrases.proofs.counts.Goals as goal

pub returns : goal.returns
returns c =
    joined (omega arith)
    (joined (omega arith) (joined (omega arith) (says-number c.put_number-p.ensures) c.put_byte-p.ensures) (says-number c.put_number-p-2.ensures))
    c.put_byte.ensures
