-- `holds`: way by way, as the test goes.
use Rattle.std.proofs.Common.{arith}
use Rattle.card_sums.specs.Rows.{holds}
use Rattle.card_sums.proofs.Every.{every-none, every-next, every-ends}
use Rattle.card_sums.proofs.holds.Goals as goal

pub loop-way-init : goal.loop-way-init
loop-way-init c = every-none _

pub loop-way-preserved : goal.loop-way-preserved
loop-way-preserved c = every-next _ c.loop-way.way c.loop-way.invariant c.way_holds-all.ensures

pub returns : goal.returns
unfolding holds
returns c = every-ends _ 64 c.loop-way.way (omega arith) c.loop-way.invariant
