-- Runs of calls on a receiver: any results that the receiver's promises allow, one after the other, whichever calls refuse. Nothing
-- is said of one program's text: what is taken and written is read off the answers and the outputs alone.
--   Talk k w b took ws rx   after an opening with the accord k, window w and start b, and any calls, the symbols `took` were taken and the
--                           words ws written, both in the order of time, and the receiver rx is open
--   Ended k w b took ws     the same, and then a finish that succeeded
use Rattle.std.specs.Prelude.{ℕ, ◌≡◌, List, [], ◌++◌, take}
use Rattle.points.specs.declared.Accord.{Accord}
use Rattle.trellis.specs.Measure.{Two}
use Rattle.nearest.specs.declared.Received.{Received}
use Rattle.reasons.specs.Reason.{given_of}
use Rattle.openings.specs.declared.Start.{Start}
use Rattle.openings.specs.declared.Opened.{Opened}
use Rattle.receiver.specs.declared.Answer.{Answer}
use Rattle.receiver_meaning.specs.Piece.{Piece}
use Rattle.openings.specs.Opening.{Receiver, Opens}
use Rattle.receiver.specs.Promise.{Hears, Finishes}

pub data Talk (k : Accord) (w : ℕ) (b : Start) : List (Two Received) → List ℕ → Receiver → Type 0 where
  opens : (r : Opened) → Opens k w b r → (given_of r.why).number ≡ 0 → Talk k w b [] [] r.receiver
  hears : {took : List (Two Received)} {ws : List ℕ} {rx : Receiver} → Talk k w b took ws rx →
      (p : Piece) (out o : List ℕ) (r : Answer) → Hears rx p out r o → Talk k w b (took ++ take r.taken p.symbols) (ws ++ take r.written o) r.receiver
  refuses : {took : List (Two Received)} {ws : List ℕ} {rx : Receiver} → Talk k w b took ws rx →
      (out o : List ℕ) (r : Answer) → Finishes rx out r o → ((given_of r.why).number ≡ 0 → ⊥) → Talk k w b took (ws ++ take r.written o) r.receiver

pub data Ended (k : Accord) (w : ℕ) (b : Start) : List (Two Received) → List ℕ → Type 0 where
  ends : {took : List (Two Received)} {ws : List ℕ} {rx : Receiver} → Talk k w b took ws rx →
      (out o : List ℕ) (r : Answer) → Finishes rx out r o → (given_of r.why).number ≡ 0 → Ended k w b took (ws ++ take r.written o)
