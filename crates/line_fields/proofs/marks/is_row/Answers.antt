-- `is_row`: the length first, then the bytes.
use Rattle.std.proofs.Common.{arith, sym, ◌∙◌}
use Rattle.line_fields.proofs.Rows.{empty-row, long-row, crowded-row, by_bytes}
use Rattle.line_fields.proofs.marks.is_row.Goals.{then-n-lt1-via-then-n-lt1, then-n-lt1-via-else-n-lt1+then-n-gt-MOST, then-n-lt1-via-else-n-lt1+else-n-gt-MOST+then-room-n}
use Rattle.line_fields.proofs.marks.is_row.Goals as goal

pub returns-then-n-lt1 : goal.returns-then-n-lt1
returns-then-n-lt1 c =
    elim c.then-n-lt1.branch [
      | then-n-lt1-via-then-n-lt1 w ↦ sym (empty-row _ _ w.if-n-lt1.true)
      | then-n-lt1-via-else-n-lt1+then-n-gt-MOST w ↦ sym (long-row _ _ (omega (arith, w.if-n-lt1.false)) w.if-n-gt-MOST.true)
      | then-n-lt1-via-else-n-lt1+else-n-gt-MOST+then-room-n w ↦ sym (crowded-row _ _ (omega (arith, w.if-n-lt1.false)) (omega (arith, w.if-n-gt-MOST.false)) w.if-room-n.true)
    ]

pub returns : goal.returns
returns c = c.are_marks.ensures ∙ sym (by_bytes _ _ (omega (arith, c.if-n-lt1.false)) (omega (arith, c.if-n-gt-MOST.false)) (omega (arith, c.if-room-n.false)))
