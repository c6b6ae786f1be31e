-- `all_reached`: the bits of the keys so far.
use Rattle.std.proofs.Common.{sym, ◌∙◌, arith}
use Rattle.sums.proofs.Together.{together, together-ends}
use Rattle.sums.proofs.all_reached.Goals as goal

pub loop-key-preserved : goal.loop-key-preserved
loop-key-preserved c = c.loop-key.invariant ∙ together c.args.keys.now c.loop-key.key-index c.loop-key.bits (omega arith)

pub returns : goal.returns
returns c = sym (c.loop-key.invariant ∙ together-ends c.args.keys.now c.loop-key.key-index c.loop-key.bits (omega arith))
