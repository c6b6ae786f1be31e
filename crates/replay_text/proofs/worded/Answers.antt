-- `worded`: the head, then the word.
use Rattle.std.proofs.Common.{arith}
use Rattle.text.specs.Bytes.{bytes}
use Rattle.page.proofs.Pages.{joined}
use Rattle.replay_text.proofs.Lines.{head_near}
use Rattle.replay_text.proofs.worded.Goals as goal

pub put_hex-requires : goal.put_hex-requires
put_hex-requires c = omega (arith, head_near (bytes "record ") _ _ c.head-p.ensures, c.head-p.auto.page)

pub returns : goal.returns
returns c =
    let h = c.head-p.ensures in
    joined (omega (arith, head_near (bytes "record ") _ _ h)) h c.put_hex.ensures
