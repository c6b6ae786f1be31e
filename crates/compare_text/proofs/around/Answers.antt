-- `around`: one text after another.
use Rattle.std.proofs.Common.{arith}
use Rattle.page.proofs.Pages.{joined}
use Rattle.phrases.proofs.Phrases.{says-number}
use Rattle.compare_text.proofs.around.Goals as goal

pub returns-clause-puts : goal.returns-clause-puts
returns-clause-puts c =
    joined (omega arith) (joined (omega arith) c.put_text-p.ensures (says-number c.put_number-p.ensures)) c.put_text.ensures
