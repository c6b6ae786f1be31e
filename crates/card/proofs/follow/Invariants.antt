-- The loop of `follow`: the steps so far hold, and the sum is that of the card's sequence so far.
use Rattle.card.specs.Promise.{card_in}
use Rattle.card.proofs.Following.{Followed}
use Rattle.card.proofs.follow.Given as goal

abbrev pub invariant-loop-i : goal.invariant-loop-i
invariant-loop-i l = Followed l.k (card_in l.c) l.i l.sum
