-- `pair`: two numbers, and the end of the line.
use Rattle.std.proofs.Common.{arith}
use Rattle.page.proofs.Pages.{joined}
use Rattle.phrases.proofs.Phrases.{says-whole, says-next, next-near}
use Rattle.answers.proofs.pair.Goals as goal

pub end-requires : goal.end-requires
end-requires c = omega (arith, next-near _ c.next_whole-p.ensures)

pub returns : goal.returns
returns c =
    joined (omega (arith, next-near _ c.next_whole-p.ensures))
    (joined (omega arith) (says-whole _ c.ranges.x c.put_whole-p.ensures) (says-next _ c.ranges.y c.next_whole-p.ensures)) c.end.ensures
