-- `verbs::open_receiver::opened`: the receiver and the number of the opening.
use mathlib.Core.Path.{ap, ◌∙◌}
use native.Mathlib.Omega.{arith}
use Rattle.reasons.specs.Reason.{Reason}
use Rattle.answers.specs.Answer.{number_line}
use Rattle.desk.specs.Desk.{with_receiver}
use Rattle.answers.proofs.Answers.{number-near}
use Rattle.desk.proofs.Desks.{does}
use Rattle.desk.proofs.verbs.open_receiver.opened.Goals as goal

pub returns : goal.returns
returns c =
    λ g given same.
    does c.with_receiver.ensures (ap (with_receiver c.args.desk) same) (ap number_line (c.from.ensures ∙ c.number.ensures ∙ ap (λ (r : Reason). r.number) given))
    (omega (arith, number-near _ c.number-p.ensures)) c.number-p.ensures
