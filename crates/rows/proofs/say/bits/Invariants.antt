-- `say::bits`: what is left of the bits is below 64.
use Rattle.std.proofs.Common.{◌<◌}
use Rattle.rows.proofs.say.bits.Given as goal

abbrev pub invariant-loop-b : goal.invariant-loop-b
invariant-loop-b l = l.left < 64
