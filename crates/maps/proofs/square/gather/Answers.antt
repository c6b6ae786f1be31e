-- `gather`: at all 1024 numbers.
use Prim.Native.Nat.{ℕ, ◌/◌}
use lib.Bits.{bit_and, bit_or}
use Rattle.wei.proofs.Finite.{equal1}
use Rattle.maps.specs.SquareBits.{gathered}
use Rattle.maps.proofs.square.gather.Goals as goal

-- what the code computes
pairs : ℕ → ℕ
pairs v = bit_and (bit_or (bit_and v 341) (bit_and v 341 / 2)) 819

fours : ℕ → ℕ
fours v = bit_and (bit_or (pairs v) (pairs v / 4)) 783

code : ℕ → ℕ
code v = bit_and (bit_or (fours v) (fours v / 16)) 31

pub returns : goal.returns
unfolding pairs fours code gathered
returns c = equal1 1024 code gathered tt c.args.v c.requires
