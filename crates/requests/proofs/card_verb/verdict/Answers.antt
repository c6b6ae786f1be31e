-- `verdict`: all four lists are read, and a token is left.
use Rattle.std.proofs.Common.{sym, ap}
use Rattle.requests.specs.Asked.{verdict_on}
use Rattle.requests.specs.Verb.{unless_unread}
use Rattle.requests.proofs.Filling.{too_long}
use Rattle.requests.proofs.card_verb.verdict.Goals as goal

pub returns-then-d-s : goal.returns-then-d-s
returns-then-d-s c =
    ap unless_unread (sym (ap (verdict_on c.args.k)
    (too_long _ _ _ c.numbers.ensures c.in_ok-a.was c.numbers-2.ensures c.in_ok-b.was c.numbers-3.ensures c.in_ok-c.was c.numbers-4.ensures c.in_ok-d.was
    c.if-d-s.true)))
