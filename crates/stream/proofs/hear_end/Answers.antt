-- `hear_end`: the last line is answered, if there are bytes of it.
use Rattle.std.proofs.Common.{arith}
use borrow.Author.Tests.{not-false}
use Rattle.line_buffer.proofs.Gathering.{clash}
use Rattle.stream.proofs.Streams.{stands-as, after-reply, some-last}
use Rattle.stream.proofs.hear_end.Goals as goal
use Rattle.stream.proofs.hear_end.Goals.{else-lab-eq0-via-then-lab-eq0+else-not-lab, else-lab-eq0-via-else-lab-eq0}

pub returns-clause-moves : goal.returns-clause-moves
returns-clause-moves c =
    λ k b z. let some =
    some-last _ k z.holds.part c.requires.at_bound.1
    (λ e f. elim c.else-lab-eq0.branch [
      | else-lab-eq0-via-then-lab-eq0+else-not-lab w ↦ clash c.args.lab.part.long (not-false _ w.if-not-lab.false) f
      | else-lab-eq0-via-else-lab-eq0 w ↦ w.if-lab-eq0.false e
    ]) in
    stands-as some (after-reply z _ _ (omega (arith, c.requires.page_len, c.requires.at_bound.0)) (c.reply.ensures.by_index _ z.holds.part))
