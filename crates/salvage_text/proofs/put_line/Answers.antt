-- `put_line`: the four, one after the other, and a newline.
use Rattle.std.proofs.Common.{arith}
use Rattle.page.proofs.Pages.{joined}
use Rattle.salvage_text.specs.Says.{changes_line}
use Rattle.salvage_text.proofs.put_line.Goals as goal

pub returns : goal.returns
unfolding changes_line
returns c =
    joined (omega (arith, c.counted-p-4.ensures.upper_bound))
    (joined (omega (arith, c.counted-p-3.ensures.upper_bound))
    (joined (omega (arith, c.counted-p-2.ensures.upper_bound)) (joined (omega (arith, c.counted-p.ensures.upper_bound)) c.counted-p.ensures.puts c.counted-p-2.ensures.puts) c.counted-p-3.ensures.puts)
    c.counted-p-4.ensures.puts)
    c.put_byte.ensures
