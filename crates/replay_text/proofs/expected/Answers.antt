-- `expected`: the recorded word, then the text.
use Rattle.std.proofs.Common.{arith}
use Rattle.page.proofs.Pages.{joined}
use Rattle.replay_text.proofs.Lines.{word-near}
use Rattle.replay_text.proofs.expected.Goals as goal

pub put_text-requires : goal.put_text-requires
put_text-requires c = omega (arith, word-near _ _ c.worded-p.ensures, c.worded-p.auto.page)

pub returns : goal.returns
returns c =
    let h = c.worded-p.ensures in
    joined (omega (arith, word-near _ _ h)) h c.put_text.ensures
