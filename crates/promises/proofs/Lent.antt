-- A receiver may be kept in its parts, its lists lent to each call (`receiver::hear_piece_lent`). Such a call is a call of a talk, so all that the
-- demands say of a talk holds of receivers kept so; the picks lent have to be the 72 that a receiver has.
--   lent   a talk goes on by a piece heard in parts
use Prim.Native.Nat.{ℕ}
use mathlib.Core.Path.{◌≡◌}
use mathlib.Core.List.{List, ◌++◌}
use lib.ListN.{length, take}
use Rattle.points.specs.declared.Accord.{Accord}
use Rattle.trellis.specs.Measure.{Two}
use Rattle.nearest.specs.declared.Received.{Received}
use Rattle.receiver_meaning.specs.Piece.{Piece}
use Rattle.openings.specs.declared.Start.{Start}
use Rattle.openings.specs.Opening.{Receiver}
use Rattle.pieces.specs.declared.Heard.{Heard}
use Rattle.receiver.specs.Promise.{parts_of, answer_of, HearsLent}
use Rattle.receiver.proofs.Doors.{hears-lent}
use Rattle.promises.specs.Talk.{Talk, hears}

pub lent : (k : Accord) (w : ℕ) (b : Start) (took : List (Two Received)) (ws : List ℕ) (rx : Receiver) → Talk k w b took ws rx →
    length rx.picks ≡ 72 → (p : Piece) (out : List ℕ) (r : Heard) (sums registers picks o : List ℕ) →
    HearsLent rx.live rx.core rx.sums rx.registers rx.picks p out r sums registers picks o →
    Talk k w b (took ++ take r.taken p.symbols) (ws ++ take r.written o) (parts_of rx.live r.core sums registers picks)
lent k w b took ws rx t n p out r sums registers picks o h =
    hears t p out o (answer_of rx.live r sums registers picks) (hears-lent rx p out r sums registers picks o n h)
