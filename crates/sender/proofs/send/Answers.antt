-- `send`: a closed sender, or a list of one word of an open one.
use mathlib.Core.Path.{sym, ◌∙◌}
use Rattle.sender.proofs.Cases.{sends-closed}
use Rattle.sender.proofs.Lists.{went-as, one-sent}
use Rattle.sender.proofs.send.Goals as goal

pub returns-then-not-is_open : goal.returns-then-not-is_open
returns-then-not-is_open c =
    sends-closed c.args.s c.args.word c.args.out.now c.refuse.result (sym c.is_open.ensures ∙ c.if-not-is_open.true) c.refuse.ensures

pub returns : goal.returns
returns c =
    let a = c.args in
    rw c.sender_at.ensures
    (one-sent a.s a.word a.out.now _ _ (went-as a.s _ a.out.now (sym c.is_open.ensures ∙ c.if-not-is_open.false) _ _ c.send_words-w.ensures))
