-- `verbs::open_receiver::open_at`: what the receiver's opening gave.
use Rattle.openings.specs.declared.Start.TheVariants.{At}
use Rattle.openings.specs.Opening.{opening}
use Rattle.desk.specs.Desk.{acting}
use Rattle.desk.proofs.verbs.open_receiver.open_at.Goals as goal

pub returns : goal.returns
unfolding acting
returns c =
    let a = c.args in
    c.opened.ensures (opening a.accord a.window (At a.state)) c.open_receiver-o.ensures.always-given c.open_receiver-o.ensures.always-receiver
