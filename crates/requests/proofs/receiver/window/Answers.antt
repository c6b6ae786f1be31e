-- `window`: a number, and the start after it.
use Rattle.std.proofs.Common.{ap, ◌∙◌}
use Rattle.requests.specs.Verb.{unless_unread}
use Rattle.requests.proofs.Openings.{window-alone, window_more}
use Rattle.requests.proofs.receiver.window.Goals as goal

pub returns-then-n-rest : goal.returns-then-n-rest
returns-then-n-rest c =
    ap unless_unread (window-alone c.before-n.ensures _ c.if-n-rest.true)

pub returns-in_err-window : goal.returns-in_err-window
returns-in_err-window c =
    rw c.from_residual.ensures (ap unless_unread (window_more c.before-n.ensures _ _ c.if-n-rest.false c.in_err-window.ensures))

pub returns : goal.returns
returns c =
    c.start.ensures ∙ ap unless_unread (window_more c.before-n.ensures _ _ c.if-n-rest.false c.in_ok-window.ensures)
