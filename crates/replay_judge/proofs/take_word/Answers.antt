-- `take_word`: a word that is shown was given, so the count of those fits.
use Rattle.std.proofs.Common.{sym, ◌∙◌, arith}
use Rattle.replay_judge.proofs.Dues.{due_below}
use Rattle.replay_judge.proofs.take_word.Goals as goal

pub overflow_add-result : goal.overflow_add-result
overflow_add-result c =
    omega (arith, due_below _ _ _ _ (sym c.next_due.ensures ∙ c.in-Some.is), c.ranges)
