-- `verbs::piece::hear`: the output has as many places as the line names, and the piece as many coordinates.
use native.Mathlib.Omega.{arith}
use lib.ListN.{take}
use lib.Seq.{length-take-le}
use Rattle.receiver_meaning.specs.Piece.{piece_of}
use Rattle.receiver.specs.Doors.{hearing}
use Rattle.desk.specs.Desk.{ran_gives, acting}
use Rattle.desk.proofs.Desks.{within, at_cap, short}
use Rattle.desk.proofs.verbs.piece.hear.Goals as goal

pub returns : goal.returns
unfolding acting
returns c =
    at_cap (λ n. ran_gives c.args.desk (hearing c.args.desk.receiver (piece_of (take c.args.count c.args.coordinates.now)) n)) (length-take-le _ _ c.requires.0)
    (within (omega (arith, short c.args.cap c.args.words.now c.requires.1)) c.heard.ensures)
