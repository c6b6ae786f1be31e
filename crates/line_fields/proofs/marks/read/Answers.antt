-- `read`: `-` first, then a row.
use Rattle.std.proofs.Common.{sym, ◌∙◌}
use Rattle.line_fields.proofs.Rows.{no-marks, no_row, a-row, row-marks, row_room}
use Rattle.line_fields.proofs.marks.read.Goals as goal

pub returns-then-same : goal.returns-then-same
returns-then-same c = no-marks _ _ (sym c.same.ensures ∙ c.if-same.true)

pub returns-then-not-is_row : goal.returns-then-not-is_row
returns-then-not-is_row c = no_row _ _ (sym c.same.ensures ∙ c.if-same.false) (sym c.is_row.ensures ∙ c.if-not-is_row.true)

pub put-requires : goal.put-requires
put-requires c = let row = sym c.is_row.ensures ∙ c.if-not-is_row.false in (row-marks _ _ row, row_room _ _ row)

pub returns : goal.returns
returns c = a-row _ _ (sym c.same.ensures ∙ c.if-same.false) (sym c.is_row.ensures ∙ c.if-not-is_row.false) c.put.ensures
