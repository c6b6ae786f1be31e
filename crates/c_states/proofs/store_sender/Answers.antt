-- `store_sender`: four stores.
use Rattle.std.proofs.Common.{rules}
use Rattle.lists.proofs.Lent.{stored}
use Rattle.c_states.specs.State.{words_of_sender}
use Rattle.c_states.proofs.Back.{sender-stored}
use Rattle.c_states.proofs.store_sender.Goals as goal

pub returns : goal.returns
unfolding words_of_sender
returns c =
    sender-stored c.args.s c.args.words.now (record { u = search rules; turn = search rules; state = search rules })
    (rw (c.tag_of.ensures, c.accord_word.ensures, c.from.ensures, c.from-2.ensures) (stored (words_of_sender c.args.s) c.args.words.now c.requires))
