-- `symbol_space`: a kind and four coordinates of two bytes, and a mark where a point is missing.
use Rattle.std.proofs.Common.{sym}
use Rattle.record_write.proofs.Fronts.{nine-bytes, ten-bytes}
use Rattle.record_write.proofs.symbol_space.Goals as goal

pub returns-then-mark-eq0 : goal.returns-then-mark-eq0
returns-then-mark-eq0 c = sym (nine-bytes _ c.args.four.now c.if-mark-eq0.true)

pub returns-else-mark-eq0 : goal.returns-else-mark-eq0
returns-else-mark-eq0 c = sym (ten-bytes _ c.args.four.now c.if-mark-eq0.false)
