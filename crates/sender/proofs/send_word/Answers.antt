-- `send_word`: the three outcomes of an open sender, each by its law.
use mathlib.Core.Path.{sym, ◌∙◌}
use Rattle.sender.proofs.Cases.{sends-bad, sends-short, sends-done}
use Rattle.sender.proofs.send_word.Goals as goal

pub returns-then-not-is_word : goal.returns-then-not-is_word
returns-then-not-is_word c =
    sends-bad c.args.s c.args.word c.args.out.now c.refuse.result c.requires.1 (sym c.is_word.ensures ∙ c.if-not-is_word.true) c.refuse.ensures

pub returns-then-out-lt4 : goal.returns-then-out-lt4
returns-then-out-lt4 c =
    sends-short c.args.s c.args.word c.args.out.now c.refuse-then-out-lt4.result c.requires.1 (sym c.is_word.ensures ∙ c.if-not-is_word.false) c.if-out-lt4.true
    c.refuse-then-out-lt4.ensures

pub returns : goal.returns
returns c =
    rw c.sender_at.ensures
    (sends-done c.args.s c.args.word c.args.out.now c.make-y.result _ c.requires.1 (sym c.is_word.ensures ∙ c.if-not-is_word.false) c.if-out-lt4.false c.make-y.ensures
    c.put.ensures)
