-- `verbs::open_sender::open_sender`: the sender and the number of the opening.
use mathlib.Core.Path.{ap, ◌∙◌}
use native.Mathlib.Omega.{arith}
use Rattle.answers.specs.Answer.{number_line}
use Rattle.desk.specs.Desk.{with_sender, acting}
use Rattle.answers.proofs.Answers.{number-near}
use Rattle.desk.proofs.Desks.{does}
use Rattle.desk.proofs.verbs.open_sender.open_sender.Goals as goal

pub returns : goal.returns
unfolding acting
returns c =
    let opened = c.open_sender-opened.ensures in
    does c.with_sender.ensures (ap (with_sender c.args.desk) opened.sender)
    (ap number_line (c.from.ensures ∙ c.number.ensures ∙ opened.number))
    (omega (arith, number-near _ c.number-p.ensures)) c.number-p.ensures
