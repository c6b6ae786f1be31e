-- `state::subset_between`: at all pairs of states.
use Prim.Native.Nat.{ℕ, ◌*◌, ◌/◌, ◌%◌, ◌^◌}
use lib.Bits.{bit_and, bit_or, bit_xor}
use Rattle.wei.specs.State.{between, carry_i1, carry_i2}
use Rattle.wei.proofs.Finite.{equal2}
use Rattle.wei.proofs.state.subset_between.Goals as goal

-- what the code computes
code : ℕ → ℕ → ℕ
code s t =
    bit_or (bit_or (bit_and s 1 * 4 % 2 ^ 32) (bit_and (bit_xor (bit_xor t (s / 8)) (s / 2)) 1 * 2 % 2 ^ 32))
    (bit_and (bit_xor (t / 2) (s / 4)) 1)

pub returns : goal.returns
unfolding code between carry_i1 carry_i2
returns c = equal2 16 16 code between tt c.args.s c.args.t c.requires.0 c.requires.1
