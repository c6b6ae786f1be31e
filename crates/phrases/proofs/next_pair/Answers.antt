-- `next_pair`: one number, and the next.
use Rattle.std.proofs.Common.{arith}
use Rattle.page.proofs.Pages.{joined}
use Rattle.phrases.proofs.Phrases.{says-next, next-near}
use Rattle.phrases.proofs.next_pair.Goals as goal

pub next_whole-requires : goal.next_whole-requires
next_whole-requires c = omega (arith, next-near _ c.next_whole-p.ensures)

pub returns : goal.returns
returns c =
    joined (omega (arith, next-near _ c.next_whole-p.ensures)) (says-next _ c.ranges.x c.next_whole-p.ensures)
    (says-next _ c.ranges.y c.next_whole.ensures)
