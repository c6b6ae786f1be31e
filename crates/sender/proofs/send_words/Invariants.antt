-- `send_words`: where the loop over the words stands (proofs/Lists).
use Rattle.sender.proofs.Lists.{Going}
use Rattle.sender.proofs.send_words.Given as goal

abbrev pub invariant-loop-sent : goal.invariant-loop-sent
invariant-loop-sent l = Going l.fn.words l.initial.out l.initial.sender l.out l.sender l.sent
