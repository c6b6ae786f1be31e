-- `each_chunk`: what a step left is taken with the next chunk.
use Rattle.edge.proofs.Chunks.{handed-more}
use Rattle.edge.proofs.each_chunk.Goals as goal

pub loop-preserved : goal.loop-preserved
loop-preserved g c =
    let was = rw c.in_ok-now.was at c.step.ensures in
    let i = c.loop.invariant in
    (c.requires.next_taken _ _ _ _ _ (i.0 _) was, handed-more _ _ _ _ _ _ _ _ _ i.1.1 was i.1.2 c.in_ok-n.ensures.bytes)
