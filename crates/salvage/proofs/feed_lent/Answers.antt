-- `feed_lent`: a run of bytes a round, and what is written for the record that they make whole.
use Rattle.std.proofs.Common.{◌+◌, ◌≤◌, length, arith}
use Rattle.replay.proofs.Feeds.{runs}
use Rattle.salvage.proofs.Feeds.{going-none, going-long, going_on}
use Rattle.salvage.proofs.feed_lent.Goals as goal

pub loop-used-init : goal.loop-used-init
loop-used-init c = going-none _ _ _

pub overflow_add-used : goal.overflow_add-used
overflow_add-used c =
    omega (arith, (runs c.loop-used.frame c.args.bytes.now c.loop-used.used _ _ c.loop-used-test.true c.advance-m.ensures).1, c.well_formed)

pub loop-used-smaller : goal.loop-used-smaller
loop-used-smaller c =
    let m = runs c.loop-used.frame c.args.bytes.now c.loop-used.used _ _ c.loop-used-test.true c.advance-m.ensures in
    omega (arith, m.0, m.1)

pub loop-used-preserved : goal.loop-used-preserved
loop-used-preserved c =
    let l = c.loop-used in
    let free : l.size + 335 ≤ length c.args.page.now = omega (arith, c.if-page-size-ge335.true, going-long _ _ _ _ _ _ _ l.invariant) in
    going_on _ _ _ _ _ _ _ l.invariant c.loop-used-test.true free _ _ c.advance-m.ensures _ c.settle-turn.ensures _ _ c.put-size.ensures.puts c.put-size.ensures.upper_bound
