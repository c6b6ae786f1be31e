-- `piece::read`: a cap, and then nothing or the coordinates.
use Rattle.std.proofs.Common.{ap, refl}
use Rattle.requests.specs.Verb.{unless_unread}
use Rattle.requests.proofs.Readers.{piece-read}
use Rattle.requests.proofs.piece.read.Goals as goal

pub returns-in_err-cap-clause-value : goal.returns-in_err-cap-clause-value
returns-in_err-cap-clause-value c =
    rw c.from_residual.ensures (ap unless_unread (piece-read c.before-n.ensures _ c.in_err-cap.ensures c.coordinates_after-count.ensures.value refl))

pub returns-clause-value : goal.returns-clause-value
returns-clause-value c =
    ap unless_unread (piece-read c.before-n.ensures _ c.in_ok-cap.ensures c.in_ok-count.ensures.value refl)
