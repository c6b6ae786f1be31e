-- `read`: a map, a width and a count, and the lists.
use Rattle.std.proofs.Common.{ap, ◌∙◌}
use Rattle.requests.specs.Verb.{unless_unread}
use Rattle.requests.proofs.Lines.{no-map, no-numbers, too_many, asked}
use Rattle.requests.proofs.card_verb.read.Goals as goal

pub returns-in_err-map : goal.returns-in_err-map
returns-in_err-map c =
    rw c.from_residual.ensures (ap unless_unread (no-map c.before-n.ensures c.in_err-map.ensures))

pub returns-in_err-at : goal.returns-in_err-at
returns-in_err-at c =
    rw c.from_residual-in_err-at.ensures (ap unless_unread (no-numbers c.before-n.ensures c.in_ok-map.ensures c.numbers.ensures c.in_err-at.was))

pub returns-then-count-gt64 : goal.returns-then-count-gt64
returns-then-count-gt64 c =
    ap unless_unread (too_many c.before-n.ensures c.in_ok-map.ensures c.numbers.ensures c.in_ok-at.was c.if-count-gt64.true)

pub returns : goal.returns
returns c =
    c.checked.ensures ∙ ap unless_unread (asked c.before-n.ensures c.in_ok-map.ensures c.numbers.ensures c.in_ok-at.was c.if-count-gt64.false)
