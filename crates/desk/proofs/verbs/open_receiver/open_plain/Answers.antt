-- `verbs::open_receiver::open_plain`: what the receiver's opening gave.
use Rattle.openings.specs.Opening.{plain_opening}
use Rattle.desk.specs.Desk.{acting}
use Rattle.desk.proofs.verbs.open_receiver.open_plain.Goals as goal

pub returns : goal.returns
unfolding acting
returns c =
    let a = c.args in
    c.opened.ensures (plain_opening a.accord) c.open_plain.ensures.always-given c.open_plain.ensures.always-receiver
