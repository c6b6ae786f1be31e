-- `none_below`: number by number, as the test goes.
use Rattle.std.proofs.Common.{refl, arith}
use Rattle.card_sums.specs.Rows.{none_below}
use Rattle.card_sums.proofs.Every.{every-none, every-next, every-ends}
use Rattle.card_sums.proofs.none_below.Goals as goal

pub loop-t-init : goal.loop-t-init
loop-t-init c = every-none _

pub loop-t-preserved : goal.loop-t-preserved
loop-t-preserved c = every-next _ c.loop-t.t c.loop-t.invariant refl

pub returns : goal.returns
unfolding none_below
returns c = every-ends _ 16 c.loop-t.t (omega arith) c.loop-t.invariant
