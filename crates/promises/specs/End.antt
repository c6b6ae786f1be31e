-- The ends of 01: "An end is a state that an opening, or a call after it, gave; the promises may rely on that and on nothing else".
--   End rx   rx is a receiver that an opening, or a call after it, gave
use Rattle.std.specs.Prelude.{ℕ}
use Rattle.points.specs.declared.Accord.{Accord}
use Rattle.receiver_meaning.specs.Piece.{Piece}
use Rattle.openings.specs.declared.Start.{Start}
use Rattle.openings.specs.Opening.{Receiver, opening}
use Rattle.receiver.specs.Doors.{hearing, finishing}

pub data End : Receiver → Type 0 where
  fresh : (k : Accord) (w : ℕ) (b : Start) → End (opening k w b).receiver
  heard : {rx : Receiver} → End rx → (p : Piece) (room : ℕ) → End (hearing rx p room).receiver
  finished : {rx : Receiver} → End rx → (room : ℕ) → End (finishing rx room).receiver
