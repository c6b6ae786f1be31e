-- `read`: a width, and then a map, or a window and a start.
use Rattle.std.proofs.Common.{ap, arith, ◌∙◌}
use Rattle.requests.specs.Verb.{unless_unread}
use Rattle.requests.proofs.Openings.{receiver-bad, receiver-plain, receiver-more, more-follow}
use Rattle.requests.proofs.receiver.read.Goals as goal

pub returns-in_err-u : goal.returns-in_err-u
returns-in_err-u c =
    rw c.from_residual.ensures (ap unless_unread (receiver-bad c.before-n.ensures c.in_err-u.ensures))

pub returns-in-Some : goal.returns-in-Some
returns-in-Some c =
    ap unless_unread (receiver-plain c.before-n.ensures c.in_ok-u.ensures c.in-Some.ensures)

pub slice_bounds-window-count : goal.slice_bounds-window-count
slice_bounds-window-count c = let n = more-follow c.before-n.ensures c.in_default.ensures in omega (arith, n, c.before-n.ensures.within)

pub slice_bounds-window-start : goal.slice_bounds-window-start
slice_bounds-window-start c = let n = more-follow c.before-n.ensures c.in_default.ensures in omega (arith, n, c.before-n.ensures.within)

pub returns : goal.returns
returns c =
    c.window.ensures ∙ ap unless_unread (receiver-more c.before-n.ensures c.in_ok-u.ensures c.in_default.ensures)
