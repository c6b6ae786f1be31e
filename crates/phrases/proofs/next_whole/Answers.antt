-- `next_whole`: a space, and the number.
use Rattle.std.proofs.Common.{arith}
use Rattle.page.proofs.Pages.{joined}
use Rattle.phrases.proofs.Phrases.{says-whole}
use Rattle.phrases.proofs.next_whole.Goals as goal

pub returns : goal.returns
returns c = joined (omega arith) c.put_byte-p.ensures (says-whole _ c.ranges.x c.put_whole.ensures)
