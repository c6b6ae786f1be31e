-- `shift`: one word, two, or three, from the highest down.
use Rattle.std.proofs.Common.{ap, ◌∙◌}
use Rattle.registers.specs.Put.{put_word}
use Rattle.registers.proofs.Places.{shift_one, shift_two, shift-three}
use Rattle.registers.proofs.shift.Goals as goal
use Rattle.registers.proofs.shift.Goals.{then-n-gt21, then-n-gt42, else-n-gt42, else-n-gt21}

pub returns : goal.returns
returns c =
    let a = c.args in
    let first = c.move_word-2.ensures in
    let low = c.subsets_in.ensures in
    elim c.if-n-gt21.branch [
      | then-n-gt21 w ↦ elim w.if-n-gt42.branch [
        | then-n-gt42 v ↦
            shift-three a.n a.registers.now a.steps.now a.ways.now _ c.requires low _ _ _ w.words_before-middle.ensures _ _ v.words_before-high.ensures v.if-n-gt42.true
            v.move_word.ensures (w.move_word-then-n-gt21.ensures ∙ ap (put_word 1 _) v.registers-is) (first ∙ ap (put_word 0 _) w.registers-is)
        | else-n-gt42 v ↦
            shift_two a.n a.registers.now a.steps.now a.ways.now _ c.requires low _ _ _ w.words_before-middle.ensures w.if-n-gt21.true v.if-n-gt42.false
            (w.move_word-then-n-gt21.ensures ∙ ap (put_word 1 _) v.registers-is) (first ∙ ap (put_word 0 _) w.registers-is)
      ]
      | else-n-gt21 w ↦ shift_one a.n a.registers.now a.steps.now a.ways.now _ c.requires low _ w.if-n-gt21.false (first ∙ ap (put_word 0 _) w.registers-is)
    ]
