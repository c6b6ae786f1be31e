-- `verbs::pending::pending`: the receiver's count.
use mathlib.Core.Path.{refl, ap}
use native.Mathlib.Omega.{arith}
use Rattle.answers.specs.Answer.{number_line}
use Rattle.answers.proofs.Answers.{number-near}
use Rattle.desk.specs.Desk.{acting}
use Rattle.desk.proofs.Desks.{does}
use Rattle.desk.proofs.verbs.pending.pending.Goals as goal

pub returns : goal.returns
unfolding acting
returns c =
    does refl refl (ap number_line c.pending-n.ensures) (omega (arith, number-near _ c.number.ensures)) c.number.ensures
