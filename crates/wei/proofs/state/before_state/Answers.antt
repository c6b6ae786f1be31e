-- `state::before_state`: at all sixteen states and four places.
use Prim.Native.Nat.{◌*◌, ◌/◌, ◌%◌, ◌^◌}
use lib.Bits.{bit_or}
use Rattle.wei.specs.State.{before}
use Rattle.wei.proofs.Finite.{equal2}
use Rattle.wei.proofs.state.before_state.Goals as goal

pub returns : goal.returns
unfolding before
returns c = equal2 16 4 (λ t k. bit_or (k * 4 % 2 ^ 32) (t / 4)) before tt c.args.t c.args.k c.requires.0 c.requires.1
