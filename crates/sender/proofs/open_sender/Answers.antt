-- `open_sender`: the two outcomes of the opening.
use mathlib.Core.Path.{sym, ◌∙◌}
use Rattle.sender.proofs.Cases.{opens-done, opens-wide}
use Rattle.sender.proofs.open_sender.Goals as goal

pub returns-then-not-is_accord : goal.returns-then-not-is_accord
returns-then-not-is_accord c =
    rw c.refuse.ensures (opens-wide c.args.accord c.closed_sender.result (sym c.is_accord.ensures ∙ c.if-not-is_accord.true) c.closed_sender.ensures)

pub returns : goal.returns
returns c = rw c.sender_at.ensures (opens-done c.args.accord (sym c.is_accord.ensures ∙ c.if-not-is_accord.false))
