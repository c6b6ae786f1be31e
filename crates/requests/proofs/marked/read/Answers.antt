-- `marked::read`: a cap, and what stands after it.
use Rattle.std.proofs.Common.{ap, refl, ◌∙◌}
use Rattle.requests.specs.Verb.{unless_unread}
use Rattle.requests.proofs.Readers.{marked-alone, marked-read}
use Rattle.requests.proofs.marked.read.Goals as goal

pub returns-then-n-rest : goal.returns-then-n-rest
returns-then-n-rest c =
    let e = marked-alone c.before-n.ensures c.args.coordinates.now c.args.marks.now c.if-n-rest.true in
    record { value = ap unless_unread e.0; coordinates_after = e.1.0; marks_after = e.1.1 }

pub returns : goal.returns
returns c =
    let e = marked-read c.before-n.ensures c.args.coordinates.now c.args.marks.now c.if-n-rest.false c.cap_of-cap.ensures refl
    c.after_cap.ensures.coordinates_after c.after_cap.ensures.marks_after in
    record { value = c.after_cap.ensures.value ∙ ap unless_unread e.0; coordinates_after = e.1.0; marks_after = e.1.1 }
