-- `differs`: the recorded word, and the one that was expected.
use Rattle.std.proofs.Common.{arith}
use Rattle.text.specs.Bytes.{bytes}
use Rattle.page.proofs.Pages.{joined}
use Rattle.replay_text.specs.Says.{line_of}
use Rattle.replay_text.proofs.Lines.{expected-near}
use Rattle.replay_text.proofs.differs.Goals as goal

pub put_hex-requires : goal.put_hex-requires
put_hex-requires c = omega (arith, expected-near _ _ (bytes " expected ") c.expected-p.ensures, c.expected-p.auto.page)

pub returns : goal.returns
unfolding line_of
returns c =
    let h = c.expected-p.ensures in
    joined (omega (arith, expected-near _ _ (bytes " expected ") h)) h c.put_hex.ensures
