-- `state::next`: at all sixteen states and four inputs.
use Prim.Native.Nat.{ℕ, ◌*◌, ◌/◌, ◌%◌, ◌^◌}
use lib.Bits.{bit_and, bit_or, bit_xor}
use Rattle.wei.specs.State.{next_state}
use Rattle.wei.proofs.Finite.{equal3}
use Rattle.wei.proofs.state.next.Goals as goal

-- what the code computes
code : ℕ → ℕ → ℕ → ℕ
code s a b =
    bit_or (bit_or (bit_or (bit_and (s / 2) 1 * 8 % 2 ^ 32) (bit_and s 1 * 4 % 2 ^ 32)) (bit_xor (bit_and (s / 4) 1) b * 2 % 2 ^ 32))
    (bit_xor (bit_xor (s / 8) (bit_and (s / 2) 1)) a)

pub returns : goal.returns
unfolding code next_state
returns c = equal3 16 2 2 code next_state tt c.args.s c.args.i1 c.args.i2 c.requires.0 c.requires.1 c.requires.2
