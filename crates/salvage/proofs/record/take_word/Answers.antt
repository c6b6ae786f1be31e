-- `take_word`: a word that is due was given, so the count of those that an old one stood against fits.
use Rattle.std.proofs.Common.{sym, ◌∙◌, arith}
use Rattle.replay_judge.proofs.Dues.{due_below}
use Rattle.salvage.proofs.record.take_word.Goals as goal

pub overflow_add-j : goal.overflow_add-j
overflow_add-j c = omega (arith, due_below _ _ _ _ (sym c.next_due.ensures ∙ c.in-Some.is), c.ranges)
