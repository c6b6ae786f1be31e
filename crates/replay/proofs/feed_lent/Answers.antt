-- `feed_lent`: a run of bytes a round.
use Rattle.std.proofs.Common.{◌∙◌, sym, arith}
use Rattle.replay.proofs.Feeds.{again, runs, done}
use Rattle.replay.proofs.feed_lent.Goals as goal

pub overflow_add-i : goal.overflow_add-i
overflow_add-i c =
    let l = c.loop-i in
    let m = runs l.frame c.args.bytes.now l.i _ _ c.loop-i-test.true c.advance-m.ensures in
    omega (arith, m.1, c.well_formed)

pub loop-i-smaller : goal.loop-i-smaller
loop-i-smaller c =
    let l = c.loop-i in
    let m = runs l.frame c.args.bytes.now l.i _ _ c.loop-i-test.true c.advance-m.ensures in
    omega (arith, m.0, m.1)

pub loop-i-preserved : goal.loop-i-preserved
loop-i-preserved c =
    let l = c.loop-i in
    record {
      within = (runs l.frame c.args.bytes.now l.i _ _ c.loop-i-test.true c.advance-m.ensures).1;
      fed = again _ _ _ _ _ _ _ _ _ _ _ _ _ _ _ _ l.invariant.fed c.advance-m.ensures c.settle-judge.ensures;
    }

pub returns : goal.returns
returns c = sym (c.loop-i.invariant.fed ∙ done _ _ _ c.loop-i-test.false)
