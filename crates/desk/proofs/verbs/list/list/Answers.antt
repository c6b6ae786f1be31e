-- `verbs::list::list`: the output has as many places as the line names, and the list as many words.
use native.Mathlib.Omega.{arith}
use lib.ListN.{take, length-take}
use lib.Seq.{length-take-le}
use Rattle.sender.specs.SendList.{sending_list}
use Rattle.desk.specs.Desk.{lent, list_gives, acting}
use Rattle.desk.proofs.Desks.{within, at_cap}
use Rattle.desk.proofs.verbs.list.list.Goals as goal

pub returns : goal.returns
unfolding acting
returns c =
    at_cap (λ n. list_gives c.args.desk (sending_list c.args.desk.sender (take c.args.count c.args.words.now) (lent n))) (length-take-le _ _ c.requires.0)
    (within (omega (arith, c.requires.1, length-take c.args.cap c.args.coordinates.now)) c.sent.ensures)
