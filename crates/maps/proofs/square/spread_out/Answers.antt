-- `spread_out`: at all 32 numbers.
use Prim.Native.Nat.{ℕ, ◌*◌, ◌%◌, ◌^◌}
use lib.Bits.{bit_and, bit_or}
use Rattle.wei.proofs.Finite.{equal1}
use Rattle.maps.specs.SquareBits.{spread}
use Rattle.maps.proofs.square.spread_out.Goals as goal

-- what the code computes
fours : ℕ → ℕ
fours k = bit_and (bit_or k (k * 16 % 2 ^ 32)) 271

pairs : ℕ → ℕ
pairs k = bit_and (bit_or (fours k) (fours k * 4 % 2 ^ 32)) 307

code : ℕ → ℕ
code k = bit_and (bit_or (pairs k) (pairs k * 2 % 2 ^ 32)) 341

pub returns : goal.returns
unfolding fours pairs code spread
returns c = equal1 32 code spread tt c.args.k c.requires
