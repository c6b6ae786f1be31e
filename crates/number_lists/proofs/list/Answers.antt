-- `list`: token by token, by the laws of Lists.
use Rattle.std.proofs.Common.{arith, refl}
use Rattle.number_lists.proofs.Lists.{Reading, none-listed, list_full, list-bad, list_done, list-more}
use Rattle.number_lists.proofs.list.Goals as goal

pub loop-k-init : goal.loop-k-init
loop-k-init g c = record { within = omega arith; listed = none-listed _ _ _ }

pub returns-in_err-list : goal.returns-in_err-list
returns-in_err-list g c =
    let i = c.loop-k.invariant in
    let r : Reading g.N.Written.written c.args.s.now c.args.list.now c.loop-k.from c.loop-k.k c.loop-k.list c.before-in-loop-k.result =
    record { listed = i.listed; begun = i.within; space = omega (arith, i.listed.long, c.loop-k-test.true); cut = c.before-in-loop-k.ensures } in
    rw c.from_residual.ensures (list-bad r c.in_err-list.ensures)

pub returns-then-end-s : goal.returns-then-end-s
returns-then-end-s g c =
    let i = c.loop-k.invariant in
    let r : Reading g.N.Written.written c.args.s.now c.args.list.now c.loop-k.from c.loop-k.k c.loop-k.list c.before-in-loop-k.result =
    record { listed = i.listed; begun = i.within; space = omega (arith, i.listed.long, c.loop-k-test.true); cut = c.before-in-loop-k.ensures } in
    list_done r _ _ refl c.in_ok-list.ensures c.if-end-s.true

pub loop-k-preserved : goal.loop-k-preserved
loop-k-preserved g c =
    let i = c.loop-k.invariant in
    let r : Reading g.N.Written.written c.args.s.now c.args.list.now c.loop-k.from c.loop-k.k c.loop-k.list c.before-in-loop-k.result =
    record { listed = i.listed; begun = i.within; space = omega (arith, i.listed.long, c.loop-k-test.true); cut = c.before-in-loop-k.ensures } in
    let m = list-more r _ _ refl c.in_ok-list.ensures c.if-end-s.false in
    record { within = m.0; listed = m.2 }

pub returns : goal.returns
returns g c = list_full c.loop-k.invariant.listed (omega (arith, c.loop-k.invariant.listed.long))
