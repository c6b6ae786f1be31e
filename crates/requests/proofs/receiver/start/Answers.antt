-- `start`: `free` and a map, `at` and a state, or none.
use Rattle.std.proofs.Common.{ap, ◌∙◌, sym}
use Rattle.requests.specs.Verb.{unless_unread}
use Rattle.requests.proofs.Openings.{start-free, start-alone, start-more}
use Rattle.requests.proofs.receiver.start.Goals as goal

pub returns-then-same : goal.returns-then-same
returns-then-same c =
    ap unless_unread (start-free c.before-n.ensures _ _ (sym c.if-same.true ∙ c.same.ensures) c.in_ok-map.ensures)

pub returns-then-n-rest : goal.returns-then-n-rest
returns-then-n-rest c =
    ap unless_unread (start-alone c.before-n.ensures _ _ (sym c.if-same.false ∙ c.same.ensures) c.if-n-rest.true)

pub returns-then-not-same : goal.returns-then-not-same
returns-then-not-same c =
    ap unless_unread (start-more c.before-n.ensures _ _ _ (sym c.if-same.false ∙ c.same.ensures) c.if-n-rest.false (sym c.if-not-same.true ∙ c.same-2.ensures))

pub returns : goal.returns
returns c =
    c.state.ensures ∙ ap unless_unread (start-more c.before-n.ensures _ _ _ (sym c.if-same.false ∙ c.same.ensures) c.if-n-rest.false (sym c.if-not-same.false ∙ c.same-2.ensures))
