-- `send_list`: what a closed sender is answered.
use mathlib.Core.Path.{sym, ◌∙◌}
use Rattle.sender.proofs.Lists.{list-closed}
use Rattle.sender.proofs.send_list.Goals as goal

pub returns-then-not-is_open : goal.returns-then-not-is_open
returns-then-not-is_open c =
    list-closed c.args.s c.args.words.now c.args.out.now (sym c.is_open.ensures ∙ c.if-not-is_open.true)
