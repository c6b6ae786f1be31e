-- `verbs::finish::finish`: the output has as many places as the line names.
use native.Mathlib.Omega.{arith}
use lib.Seq.{length-take-le}
use Rattle.receiver.specs.Doors.{finishing}
use Rattle.desk.specs.Desk.{ran_gives, acting}
use Rattle.desk.proofs.Desks.{within, at_cap, short}
use Rattle.desk.proofs.verbs.finish.finish.Goals as goal

pub returns : goal.returns
unfolding acting
returns c =
    at_cap (λ n. ran_gives c.args.desk (finishing c.args.desk.receiver n)) (length-take-le _ _ c.requires.0)
    (within (omega (arith, short c.args.cap c.args.words.now c.requires.1)) c.finished.ensures)
