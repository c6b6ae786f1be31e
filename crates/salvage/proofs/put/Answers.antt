-- `put`: nothing, or the frame's record and then the words.
use Rattle.std.proofs.Common.{arith}
use Rattle.salvage.proofs.Putting.{none-put, words-put}
use Rattle.salvage.proofs.put.Goals as goal

pub returns-then-not-writes-clause-puts : goal.returns-then-not-writes-clause-puts
returns-then-not-writes-clause-puts c =
    none-put c.args.writes c.args.frame c.args.given c.args.due.now c.args.page.now c.args.at c.if-not-writes.true

pub returns-clause-puts : goal.returns-clause-puts
returns-clause-puts c =
    let a = c.args in
    words-put a.writes a.frame a.given c.min-n.result c.put_own-p.result a.at a.due.now a.page.now _ _
    c.if-not-writes.false c.min-n.ensures (omega (arith, c.requires, c.put_own-p.ensures.upper_bound)) c.put_own-p.auto.page c.put_own-p.ensures.puts c.put_words.ensures
