-- `reply`: the line is within its buffer, there is room for any answer, and the answer is that of the line.
use Rattle.std.proofs.Common.{rules, refl}
use Rattle.line_reply.proofs.Named.{long-answered, line-answered, replied}
use Rattle.line_reply.proofs.reply.Goals as goal

pub returns-then-lab-clause-by_index : goal.returns-then-lab-clause-by_index
returns-then-lab-clause-by_index c = λ s g. replied refl c.unread.ensures (long-answered g c.args.lab.desk c.if-lab.true) (search rules) refl

pub returns-clause-by_index : goal.returns-clause-by_index
returns-clause-by_index c =
    λ s g. replied c.obey-done.ensures.desk c.obey-done.ensures.puts (line-answered g c.args.lab.desk c.if-lab.false) (search rules) refl
