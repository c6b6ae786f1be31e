-- `load`: each part from its place.
use Rattle.std.proofs.Common.{List, ℕ, ap, ◌∙◌, arith}
use Rattle.c_layout.specs.Halves.{unpacked}
use Rattle.replay.specs.Course.{course_of}
use Rattle.c_replay_state.specs.Table.{limits, within}
use Rattle.c_replay_state.specs.Numbers.{frame_in, judge_in}
use Rattle.c_replay_state.specs.Words.{due_in, course_in}
use Rattle.c_replay_state.proofs.Limits.{all_small}
use Rattle.c_replay_state.proofs.WordsBack.{holding, due-long, filled}
use Rattle.c_replay_state.proofs.load.Goals as goal

pub narrow-requires : goal.narrow-requires
narrow-requires c =
    let n = due-long c.args.words.now c.requires in
    (all_small 65 (due_in c.args.words.now) (omega arith) (holding c.args.words.now c.requires).due, omega arith)

pub frame_of-requires : goal.frame_of-requires
frame_of-requires c = ap (λ (l : List ℕ). within limits l) c.copy_from_slice.ensures.after ∙ (holding c.args.words.now c.requires).numbers

pub judge_of-requires : goal.judge_of-requires
judge_of-requires c = ap (λ (l : List ℕ). within limits l) c.copy_from_slice.ensures.after ∙ (holding c.args.words.now c.requires).numbers

pub returns : goal.returns
unfolding course_in
returns c =
    let ns = c.copy_from_slice.ensures.after in
    let frame = c.frame_of.ensures ∙ ap frame_in ns in
    let judge = c.judge_of.ensures ∙ ap judge_in ns in
    let sums = c.unpack.ensures ∙ ap unpacked c.copy_from_slice-2.ensures.after in
    let due = filled (due_in c.args.words.now) _ (due-long c.args.words.now c.requires) c.narrow.ensures in
    λ i. course_of (frame i) (judge i) (sums i) (c.copy_from_slice-3.ensures.after i) (c.copy_from_slice-4.ensures.after i) (due i)
