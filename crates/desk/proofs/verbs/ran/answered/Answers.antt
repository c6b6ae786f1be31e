-- `verbs::ran::answered`: the receiver and the words of the call.
use mathlib.Core.Path.{ap}
use native.Mathlib.Omega.{arith}
use Rattle.desk.specs.Desk.{with_receiver}
use Rattle.desk.proofs.Desks.{does, heard-text, short}
use Rattle.answers.proofs.Answers.{heard-near}
use Rattle.desk.proofs.verbs.ran.answered.Goals as goal

pub returns : goal.returns
returns c =
    λ ran before is.
    let few = short c.args.a.written c.args.out.now c.requires.0 in
    does c.with_receiver.ensures (ap (with_receiver c.args.desk) is.receiver) (heard-text is)
    (omega (arith, heard-near _ _ _ c.heard-p.ensures)) c.heard-p.ensures
