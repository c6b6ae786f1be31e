-- `head`: a text, a number and a text, one after the other.
use Rattle.std.proofs.Common.{arith}
use Rattle.phrases.proofs.Phrases.{says-number}
use Rattle.page.proofs.Pages.{joined}
use Rattle.replay_text.proofs.head.Goals as goal

pub returns : goal.returns
returns c =
    joined (omega arith) (joined (omega arith) c.put_text-p.ensures (says-number c.put_number-p.ensures)) c.put_text.ensures
