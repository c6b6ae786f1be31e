-- Runs of a recorder's calls: any results that its promises allow, one after the other, whichever calls refuse. What was written and
-- recorded is read off the answers, the outputs and the bytes alone.
--   Recording k w s ws bs rx   after a recorded opening with the accord k, window w and start number s, and any calls, the words ws were
--                              written and the bytes bs recorded, both in the order of time, and the receiver rx is open
--   Ended k w s ws bs          the same, and then a finish that succeeded
use Rattle.std.specs.Prelude.{ℕ, ◌≡◌, List, [], ◌++◌, take}
use Rattle.points.specs.declared.Accord.{Accord}
use Rattle.machine.specs.declared.Receiver.{Receiver}
use Rattle.reasons.specs.Reason.{given_of}
use Rattle.openings.specs.declared.Opened.{Opened}
use Rattle.openings.specs.Given.{start_at}
use Rattle.openings.specs.Opening.{Opens}
use Rattle.receiver_meaning.specs.Piece.{Piece}
use Rattle.recorder.specs.declared.Taped.{Taped}
use Rattle.recorder.specs.Promise.{OpenTaped, Tapes, FinishTaped}

pub data Recording (k : Accord) (w s : ℕ) : List ℕ → List ℕ → Receiver → Type 0 where
  opens : (r : Opened) → Opens k w (start_at s) r → (given_of r.why).number ≡ 0 →
      (bytes b : List ℕ) (n : ℕ) → OpenTaped k w s bytes n b → n ≡ 0 → Recording k w s [] (take 4 b) r.receiver
  hears : {ws bs : List ℕ} {rx : Receiver} → Recording k w s ws bs rx →
      (p : Piece) (out bytes o b : List ℕ) (r : Taped) → Tapes rx p out bytes r o b →
      Recording k w s (ws ++ take r.written o) (bs ++ take r.recorded b) r.receiver
  refuses : {ws bs : List ℕ} {rx : Receiver} → Recording k w s ws bs rx →
      (out bytes o b : List ℕ) (r : Taped) → FinishTaped rx out bytes r o b → ((given_of r.why).number ≡ 0 → ⊥) →
      Recording k w s (ws ++ take r.written o) (bs ++ take r.recorded b) r.receiver

pub data Ended (k : Accord) (w s : ℕ) : List ℕ → List ℕ → Type 0 where
  ends : {ws bs : List ℕ} {rx : Receiver} → Recording k w s ws bs rx →
      (out bytes o b : List ℕ) (r : Taped) → FinishTaped rx out bytes r o b → (given_of r.why).number ≡ 0 →
      Ended k w s (ws ++ take r.written o) (bs ++ take r.recorded b)
