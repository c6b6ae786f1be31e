-- `convert`: two coordinates a round.
use Rattle.std.proofs.Common.{◌*◌}
use Rattle.c_samples.proofs.Floats.{Going}
use Rattle.c_samples.proofs.convert.Given as goal

abbrev pub invariant-loop-j : goal.invariant-loop-j
invariant-loop-j l = Going l.floats l.missing l.initial.out l.out (2 * l.j)
