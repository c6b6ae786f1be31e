-- `marked::after_cap`: the marks, and then nothing or the coordinates.
use Rattle.std.proofs.Common.{ap, refl}
use Rattle.requests.specs.Verb.{unless_unread}
use Rattle.requests.proofs.Readers.{marked-after}
use Rattle.requests.proofs.marked.after_cap.Goals as goal

pub returns-in_err-cap : goal.returns-in_err-cap
returns-in_err-cap c =
    let e = marked-after c.before-n.ensures _ c.args.cap c.read-row.ensures c.coordinates_after-count.ensures.value refl in
    record { value = rw (c.from_residual.ensures, c.in_err-cap.was) (ap unless_unread (rw c.in_err-cap.was at e.0)); coordinates_after = c.coordinates_after-count.ensures.list_after; marks_after = e.1 }

pub returns-in_err-marks : goal.returns-in_err-marks
returns-in_err-marks c =
    let e = marked-after c.before-n.ensures _ c.args.cap c.in_err-marks.ensures c.coordinates_after-count.ensures.value refl in
    record { value = rw (c.from_residual-in_err-marks.ensures, c.in_ok-cap.was) (ap unless_unread (rw c.in_ok-cap.was at e.0)); coordinates_after = c.coordinates_after-count.ensures.list_after; marks_after = e.1 }

pub returns-in_err-count : goal.returns-in_err-count
returns-in_err-count c =
    let e = marked-after c.before-n.ensures _ c.args.cap c.in_ok-marks.ensures c.in_err-count.ensures.value refl in
    record { value = rw (c.from_residual-in_err-count.ensures, c.in_ok-cap.was) (ap unless_unread (rw c.in_ok-cap.was at e.0)); coordinates_after = c.coordinates_after-count.ensures.list_after; marks_after = e.1 }

pub returns : goal.returns
returns c =
    let e = marked-after c.before-n.ensures _ c.args.cap c.in_ok-marks.ensures c.in_ok-count.ensures.value refl in
    record { value = rw c.in_ok-cap.was (ap unless_unread (rw c.in_ok-cap.was at e.0)); coordinates_after = c.coordinates_after-count.ensures.list_after; marks_after = e.1 }
