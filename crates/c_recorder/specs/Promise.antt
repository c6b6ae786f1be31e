-- The promise of the recorded calls: the number given and all lent memory after the call are those of specs/Calls, for every input, and the
-- state then reads as the receiver that the recorder gave. As each is an equation, any two results are equal (proofs/Settled).
use Rattle.std.specs.Prelude.{ℕ, ◌≡◌, List}
use Rattle.c_states.specs.State.{receiver_in}
use Rattle.c_recorder.specs.Calls.{Call}

pub record Records (c : Call) (n : ℕ) (state out bytes told : List ℕ) : Type 0 where
  pub number : n ≡ c.number
  pub state-is : state ≡ c.state
  pub reads : receiver_in state ≡ c.receiver
  pub out-is : out ≡ c.out
  pub bytes-are : bytes ≡ c.bytes
  pub told_is : told ≡ c.told
