-- `refused`: the line of a refused symbol or opening.
use Rattle.std.proofs.Common.{arith}
use Rattle.text.specs.Bytes.{bytes}
use Rattle.phrases.proofs.Phrases.{says-number}
use Rattle.page.proofs.Pages.{joined}
use Rattle.replay_text.specs.Says.{line_of}
use Rattle.replay_text.proofs.Lines.{head_near}
use Rattle.replay_text.proofs.refused.Goals as goal

pub put_number-requires : goal.put_number-requires
put_number-requires c = omega (arith, head_near (bytes "record ") _ (bytes " refused ") c.head-p.ensures, c.head-p.auto.page)

pub returns : goal.returns
unfolding line_of
returns c =
    let h = c.head-p.ensures in
    rw (← c.from.ensures) (joined (omega (arith, head_near (bytes "record ") _ (bytes " refused ") h)) h (says-number c.put_number.ensures))
