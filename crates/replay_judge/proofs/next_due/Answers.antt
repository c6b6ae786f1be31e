-- `next_due`: the first of the words that are due.
use Rattle.std.proofs.Common.{arith}
use Rattle.std.proofs.lemmas.Grind.{common_steps}
use Rattle.std.proofs.lemmas.Option.{gets}
use Rattle.replay_judge.proofs.Dues.{none-given, got}
use Rattle.replay_judge.proofs.next_due.Goals as goal

pub returns-then-j : goal.returns-then-j
returns-then-j c = let g = got c.args.j.shown c.args.j.given c.args.due.now c.if-j.true in grind (arith, common_steps, gets)

pub returns-else-j : goal.returns-else-j
returns-else-j c = none-given _ _ _ c.if-j.false
