-- `verbs::send::sent`: the sender, and its number and coordinates.
use mathlib.Core.Path.{◌∙◌}
use native.Mathlib.Omega.{arith}
use Rattle.desk.specs.Desk.{acting}
use Rattle.answers.proofs.Answers.{sent-near}
use Rattle.desk.proofs.Desks.{does, sent-desk, sent-text}
use Rattle.desk.proofs.verbs.send.sent.Goals as goal

pub returns : goal.returns
unfolding acting
returns c =
    let start = c.args in
    let sent = c.send-sent.ensures in
    does c.with_sender.ensures (sent-desk start.desk start.desk.sender start.word start.out.now sent.sender)
    (sent-text start.desk start.desk.sender start.word start.out.now (c.number.ensures ∙ sent.number) sent.output)
    (omega (arith, sent-near _ _ c.sent-p.ensures)) c.sent-p.ensures
