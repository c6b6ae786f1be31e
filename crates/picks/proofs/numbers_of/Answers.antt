-- `numbers_of`.
use Rattle.std.proofs.Common.{arith}
use Rattle.picks.specs.Picks.{numbers_of}
use Rattle.picks.proofs.numbers_of.Goals as goal

pub returns : goal.returns
unfolding numbers_of
returns c = omega arith
