-- `frame_of`: a byte of the body a round.
use Rattle.std.proofs.Common.{ℕ, ◌≡◌, ◌+◌, ◌++◌, drop, slice_index_or}
use Rattle.lists.specs.Tabled.{tabled}
use Rattle.c_replay_state.proofs.numbers.frame_of.Given as goal

abbrev pub invariant-loop-i : goal.invariant-loop-i
invariant-loop-i l = l.b-items ≡ tabled (λ (k : ℕ). slice_index_or l.numbers (3 + k) 0) l.i ++ drop l.i l.initial.b-items
