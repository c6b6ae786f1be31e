-- `hear_symbols`: the loop goes on, stops at a refused symbol, or comes to the end (proofs/Going).
use Rattle.std.proofs.Common.{◌∙◌}
use Rattle.machine.specs.Parts.{whole}
use Rattle.receiver_meaning.specs.Piece.{marks_of}
use Rattle.piece_input.specs.Marks.{is_marked, marks_in}
use Rattle.reasons.proofs.Apart.{err-done, err-refused}
use Rattle.pieces.proofs.Going.{end, go_on, stop}
use Rattle.pieces.proofs.hear_symbols.Goals as goal

pub returns-then-is_err : goal.returns-then-is_err
returns-then-is_err c =
    let t = c.symbol-t in
    stop _ _ _ _ _ _ _ _ c.loop-taken.invariant c.loop-taken-test.true _ c.mark_at-mark.ensures t.result _ _ _ _ t.ensures t.auto.out
    (err-refused t.result.why c.is_err.result c.is_err.ensures.value c.if-is_err.true)

pub loop-taken-preserved : goal.loop-taken-preserved
loop-taken-preserved c =
    let t = c.symbol-t in
    go_on _ _ _ _ _ _ _ _ c.loop-taken.invariant c.loop-taken-test.true _ c.mark_at-mark.ensures t.result _ _ _ _ t.ensures t.auto.out
    (err-done t.result.why c.is_err.result c.is_err.ensures.value c.if-is_err.false) (t.auto.picks ∙ c.loop-taken.invariant.picks)

pub returns : goal.returns
returns c =
    let a = c.args in
    end (marks_of (is_marked a.marks) (marks_in a.marks)) a.samples.now a.out.now (whole a.start a.sums.now a.registers.now a.picks.now) c.loop-taken.out _ _ _ _ _ _ c.loop-taken.invariant
    c.loop-taken-test.false
