-- `frame_of`: a byte of the body a round, and the numbers beside it.
use Rattle.std.proofs.Common.{ℕ, ◌≡◌, ◌+◌, refl, arith, add-one, slice_index_or}
use Rattle.lists.specs.Tabled.{tabled}
use Rattle.lists.proofs.Filled.{tabled-more}
use Rattle.c_replay_state.specs.Numbers.{frame_in}
use Rattle.c_replay_state.proofs.numbers.frame_of.Goals as goal

pub loop-i-init : goal.loop-i-init
unfolding tabled
loop-i-init c = refl

pub loop-i-preserved : goal.loop-i-preserved
loop-i-preserved c = rw (c.loop-i.invariant, add-one c.loop-i.i) (tabled-more (λ (k : ℕ). slice_index_or c.args.numbers (3 + k) 0) c.loop-i.i _ (omega arith))

pub returns : goal.returns
unfolding tabled frame_in
returns c = let e : c.loop-i.i ≡ 9 = omega arith in rw (c.loop-i.invariant, e, c.phase_of.ensures, c.stage_of.ensures)
