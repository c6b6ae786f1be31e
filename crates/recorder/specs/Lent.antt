-- What the code of a recorded run is lent and what it leaves, in terms of specs/Taping. The output and the bytes hold `out` and `bytes`
-- before a call, o and b after it.
--   Refuses    what is said to a symbol whose own record has no room
--   StepIs     what one symbol gives is its outcome
--   RunsTaped  a run's result, the lists that were lent to it, the output and the bytes are those of `taping`
use Rattle.std.specs.Prelude.{ℕ, ◌<◌, ◌≡◌, false, List, length, Result, ⊤}
use Rattle.trellis.specs.Measure.{Two}
use Rattle.nearest.specs.declared.Received.{Received}
use Rattle.machine.specs.declared.Receiver.{Receiver}
use Rattle.machine.specs.Machine.{Outcome, refused}
use Rattle.machine.specs.Parts.{whole}
use Rattle.reasons.specs.declared.Why.{Why}
use Rattle.reasons.specs.Reason.{given_of, is_done}
use Rattle.pieces.specs.Running.{Written}
use Rattle.record_write.specs.Front.{space_of, symbol_space, Fronted}
use Rattle.recorder.specs.declared.piece.Step.{Step}
use Rattle.recorder.specs.declared.piece.Kept.{Kept}
use Rattle.recorder.specs.Taping.{taped_at, records_of, Ran}

abbrev pub Refuses : Receiver → Two Received → Result ⊤ Why → Type 0
Refuses rx y w = (is_done w ≡ false) × ((room bytes : ℕ) → bytes < symbol_space y → taped_at rx y room bytes ≡ refused rx w)

-- the symbol y came to the outcome q
pub record StepOf (y : Two Received) (q : Outcome) (out bytes : List ℕ) (r : Step) (sums registers picks o b : List ℕ) : Type 0 where
  pub receiver : whole r.core sums registers picks ≡ q.receiver
  pub why : r.why ≡ q.why
  pub written : r.written ≡ length q.words
  pub recorded : r.recorded ≡ space_of (records_of y q)
  pub output : Written q.words out o
  pub bytes-are : Fronted (records_of y q) bytes b

abbrev pub StepIs : Receiver → Two Received → List ℕ → List ℕ → Step → List ℕ → List ℕ → List ℕ → List ℕ → List ℕ → Type 0
StepIs rx y out bytes = StepOf y (taped_at rx y (length out) (length bytes)) out bytes

pub record RunsTaped (ran : Ran) (out bytes : List ℕ) (r : Kept) (sums registers picks o b : List ℕ) : Type 0 where
  pub receiver : whole r.core sums registers picks ≡ ran.receiver
  pub taken : r.taken ≡ ran.taken
  pub written : r.written ≡ length ran.words
  pub recorded : r.recorded ≡ space_of ran.records
  pub given : given_of r.why ≡ given_of ran.why
  pub output : Written ran.words out o
  pub bytes-are : Fronted ran.records bytes b
