-- `numbers`: token by token, by the laws of Reading.
use Rattle.std.proofs.Common.{arith, refl}
use Rattle.line_fields.proofs.Reading.{begun, ended, gone, bad, more}
use Rattle.line_fields.proofs.numbers.Goals as goal

pub loop-k-init : goal.loop-k-init
loop-k-init g c = begun _ _ _ _

pub returns-then-s-from : goal.returns-then-s-from
returns-then-s-from g c = gone c.loop-k.invariant (omega (arith, c.loop-k.invariant.long)) c.if-s-from.true

pub returns-in_err-list : goal.returns-in_err-list
returns-in_err-list g c =
    rw c.from_residual.ensures
    (bad c.loop-k.invariant (omega (arith, c.loop-k.invariant.long)) c.if-s-from.false c.before-in-loop-k.ensures c.in_err-list.ensures)

pub loop-k-preserved : goal.loop-k-preserved
loop-k-preserved g c =
    more c.loop-k.invariant (omega (arith, c.loop-k.invariant.long)) c.if-s-from.false c.before-in-loop-k.ensures _ _ refl
    c.in_ok-list.ensures

pub returns : goal.returns
returns g c = ended c.loop-k.invariant (omega (arith, c.loop-k.invariant.long))
