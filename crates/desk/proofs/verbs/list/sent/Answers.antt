-- `verbs::list::sent`: the sender, how many words it sent, and its number and coordinates.
use mathlib.Core.Path.{sym}
use native.Mathlib.Omega.{arith}
use Prim.Native.Nat.{◌*◌}
use lib.ListN.{length-take}
use lib.Seq.{length-take-le}
use Rattle.answers.proofs.Answers.{list-near}
use Rattle.desk.proofs.Desks.{does, list-desk, list-text, list-room}
use Rattle.desk.proofs.verbs.list.sent.Goals as goal

pub overflow_mul-sent : goal.overflow_mul-sent
overflow_mul-sent c =
    omega (arith, c.well_formed, list-room c.args.desk _ _ c.args.out.now c.send_list-sent.ensures)

pub slice_bounds-list-end : goal.slice_bounds-list-end
slice_bounds-list-end c =
    omega (arith, c.send_list-sent.auto.out, list-room c.args.desk _ _ c.args.out.now c.send_list-sent.ensures)

pub slice_bounds-list-end-2 : goal.slice_bounds-list-end-2
slice_bounds-list-end-2 c =
    sym (length-take-le _ _ (omega (arith, c.send_list-sent.auto.out, list-room c.args.desk _ _ c.args.out.now c.send_list-sent.ensures)))

pub returns : goal.returns
returns c =
    let few = list-room c.args.desk _ _ c.args.out.now c.send_list-sent.ensures in
    does c.with_sender.ensures (list-desk c.args.desk _ _ c.args.out.now c.send_list-sent.ensures)
    (list-text c.args.desk _ _ c.args.out.now c.send_list-sent.ensures c.number.ensures)
    (omega (arith, few, length-take (4 * c.send_list-sent.result.sent) c.send_list-sent.new.out, list-near _ _ _ c.list-p.ensures)) c.list-p.ensures
