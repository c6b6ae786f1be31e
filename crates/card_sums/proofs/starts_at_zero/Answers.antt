-- `starts_at_zero`: number by number, as the test goes.
use Rattle.std.proofs.Common.{refl, arith}
use Rattle.card_sums.specs.Rows.{starts_at_zero}
use Rattle.card_sums.proofs.Every.{every-none, every-next, every-ends}
use Rattle.card_sums.proofs.starts_at_zero.Goals as goal

pub loop-s-init : goal.loop-s-init
loop-s-init c = every-none _

pub loop-s-preserved : goal.loop-s-preserved
loop-s-preserved c = every-next _ c.loop-s.s c.loop-s.invariant refl

pub returns : goal.returns
unfolding starts_at_zero
returns c = every-ends _ 16 c.loop-s.s (omega arith) c.loop-s.invariant
