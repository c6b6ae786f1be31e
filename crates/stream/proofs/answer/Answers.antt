-- `answer`: the page is begun anew, so that what it holds in the end is what this pass has answered.
use Rattle.std.proofs.Common.{arith}
use Rattle.stream.proofs.Streams.{stands-as, begun, after-flush, lent-part, some_bytes}
use Rattle.stream.proofs.answer.Goals as goal

pub returns-clause-passes : goal.returns-clause-passes
returns-clause-passes c =
    λ k h. let long = lent-part c.args.last c.args.chunk.now c.requires.from_le_to.0 c.requires.from_le_to.1 in
    stands-as
    (some_bytes _ k c.args.last c.args.chunk.now (omega (arith, c.hear_chunk-heard.ensures.count_in_bounds.0, long)) c.if-last.false)
    (after-flush (c.hear_chunk-heard.ensures.moves k k.text (begun _ h)) c.flush-2.ensures.0 c.flush-2.ensures.1 c.flush-2.ensures.2)
