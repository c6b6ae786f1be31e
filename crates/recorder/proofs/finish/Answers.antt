-- `finish`: closed, no room, refused, or done and recorded.
use Rattle.std.proofs.Common.{sym, ap, ◌∙◌, ◌≤◌, length}
use native.Mathlib.Omega.{arith}
use lib.Seq.{length-take-le}
use Rattle.machine.proofs.Sound.{sound-core}
use Rattle.reasons.specs.Reason.{is_done}
use Rattle.receiver.proofs.Laws.{finishes-fit}
use Rattle.recorder.proofs.Ends.{finish-closed, finish-short, finish-refused, finish-written, finish-done}
use Rattle.recorder.proofs.finish.Goals as goal

pub returns-then-not-is_open : goal.returns-then-not-is_open
returns-then-not-is_open c =
    rw c.stopped.ensures (finish-closed c.args.rx c.args.out.now c.args.bytes.now (sym c.is_open.ensures ∙ c.if-not-is_open.true))

pub overflow_mul-rx : goal.overflow_mul-rx
overflow_mul-rx c = let k = sound-core _ (sym c.is_open.ensures ∙ c.if-not-is_open.false) in omega (arith, k.held, k.small-window)

pub overflow_add-rx : goal.overflow_add-rx
overflow_add-rx c = let k = sound-core _ (sym c.is_open.ensures ∙ c.if-not-is_open.false) in omega (arith, k.held, k.small-window)

pub returns-then-bytes-rx : goal.returns-then-bytes-rx
returns-then-bytes-rx c =
    let a = c.args in
    rw c.stopped-then-bytes-rx.ensures (finish-short a.rx a.out.now a.bytes.now (sym c.is_open.ensures ∙ c.if-not-is_open.false) c.if-bytes-rx.true)

pub returns-in-Err : goal.returns-in-Err
returns-in-Err c =
    let a = c.args in
    rw c.stopped-in-Err.ensures (finish-refused a.rx a.out.now a.bytes.now c.finish-a.result _ c.finish-a.ensures c.in-Err.why c.in-Err.is)

-- no more words are written than there are places, and all that were pending
pub put_finish-requires : goal.put_finish-requires
put_finish-requires c =
    let a = c.args in
    let n : c.finish-a.result.written ≤ length c.finish-a.new.out =
    omega (arith, finishes-fit a.rx a.out.now c.finish-a.result _ c.finish-a.ensures, c.finish-a.auto.out) in
    omega (
      arith,
      length-take-le c.finish-a.result.written c.finish-a.new.out n,
      finish-written a.rx a.out.now a.bytes.now c.finish-a.result _ c.finish-a.ensures (ap is_done c.in_default.is),
      c.if-bytes-rx.false,
    )

pub returns : goal.returns
returns c =
    let a = c.args in
    finish-done a.rx a.out.now a.bytes.now c.finish-a.result _ c.finish-a.ensures (ap is_done c.in_default.is) c.if-bytes-rx.false _ c.put_finish.ensures
