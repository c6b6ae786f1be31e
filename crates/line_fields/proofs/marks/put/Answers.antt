-- `put`: one mark a round.
use Rattle.std.proofs.Common.{arith}
use Rattle.line_fields.proofs.Rows.{row-byte, filled_more, all-filled}
use Rattle.line_fields.proofs.marks.put.Goals as goal

pub overflow_sub-marks : goal.overflow_sub-marks
overflow_sub-marks c = row-byte c.args.row.now c.loop-i.i c.requires.0 c.loop-i-test.true

pub loop-i-preserved : goal.loop-i-preserved
loop-i-preserved c = filled_more c.args.row.now c.args.marks.now c.loop-i.i c.loop-i.invariant c.requires.1 c.loop-i-test.true

pub returns : goal.returns
returns c = all-filled c.args.row.now c.args.marks.now c.loop-i.i c.loop-i.invariant c.requires.1 (omega (arith, c.loop-i-test.false))
