-- The promises of the recorder's doors. `always` fixes result, output and bytes for every record, so any two results are equal
-- (proofs/Settled); `owed` says, for whatever the receiver has been told, what that is: specs/Recorded.
--   OpenTaped k w s bytes n b       the promise of `record_open`: the number n, and the bytes b after the call
--   Is                              the answer is that of the machine
--   taped_parts, as_lent, TapesLent   an answer put together from its parts; a receiver whose lists are lent, and the promise to it
--   Tapes rx p out bytes r o b      the promise of `hear`; o and b are the output and the bytes after the call
--   FinishTaped rx out bytes r o b  the promise of `finish`
use Rattle.std.specs.Prelude.{ℕ, ◌≡◌, Bool, cond, List, [], eqb, length}
use Rattle.points.specs.declared.Accord.{Accord}
use Rattle.machine.specs.declared.Receiver.{Receiver}
use Rattle.machine.specs.Machine.{shut, machine_of}
use Rattle.receiver_meaning.specs.Told.{Told, Fine}
use Rattle.receiver_meaning.specs.Piece.{Piece}
use Rattle.reasons.specs.Reason.{given_of}
use Rattle.pieces.specs.Running.{Written}
use Rattle.receiver.specs.Promise.{parts_of, lent_live}
use Rattle.record_write.specs.Front.{space_of, Fronted}
use Rattle.recorder.specs.declared.piece.Kept.{Kept}
use Rattle.recorder.specs.Taping.{Ran}
use Rattle.recorder.specs.declared.Taped.{Taped}
use Rattle.recorder.specs.Recorded.{open_records, PieceRecorded, piece_recorded, FinishRecorded, finish_recorded, opening_recorded}
use Rattle.recorder.specs.Doors.{taped_hearing, taped_finishing}

-- ---- an opening

-- "a refusal writes no byte"
pub record OpenTaped (k : Accord) (w s : ℕ) (bytes : List ℕ) (n : ℕ) (b : List ℕ) : Type 0 where
  pub number : n ≡ opening_recorded k w s (length bytes)
  pub bytes-are : Fronted (cond (eqb (opening_recorded k w s (length bytes)) 0) (open_records k w s) []) bytes b

-- ---- a piece and a finish

pub record Is (ran : Ran) (out bytes : List ℕ) (r : Taped) (o b : List ℕ) : Type 0 where
  pub receiver : r.receiver ≡ ran.receiver
  pub taken : r.taken ≡ ran.taken
  pub written : r.written ≡ length ran.words
  pub recorded : r.recorded ≡ space_of ran.records
  pub given : given_of r.why ≡ given_of ran.why
  pub output : Written ran.words out o
  pub bytes-are : Fronted ran.records bytes b

abbrev pub taped_parts : Bool → Kept → List ℕ → List ℕ → List ℕ → Taped
taped_parts live r sums registers picks =
    record { receiver = parts_of live r.core sums registers picks; taken = r.taken; written = r.written; recorded = r.recorded; why = r.why }

-- picks that are lent are a live receiver's where there are 72 of them
abbrev pub as_lent : Receiver → Receiver
as_lent rx = parts_of (lent_live rx.live rx.picks) rx.core rx.sums rx.registers rx.picks

-- the receiver's lists hold sums, registers and picks after the call
abbrev pub TapesLent : Receiver → Piece → List ℕ → List ℕ → Kept → List ℕ → List ℕ → List ℕ → List ℕ → List ℕ → Type 0
TapesLent rx p out bytes r sums registers picks o b =
    Is (taped_hearing (as_lent rx) p (length out) (length bytes)) out bytes (taped_parts (as_lent rx).live r sums registers picks) o b

-- the answer is what is owed for what the receiver has been told
pub record Pays (d : PieceRecorded) (out bytes : List ℕ) (r : Taped) (o b : List ℕ) : Type 0 where
  pub given : given_of r.why ≡ d.reason
  pub taken : r.taken ≡ d.taken
  pub written : r.written ≡ length d.words
  pub recorded : r.recorded ≡ space_of d.records
  pub output : Written d.words out o
  pub bytes-are : Fronted d.records bytes b
  pub fine : Fine d.told
  pub receiver : r.receiver ≡ machine_of d.told

pub record Tapes (rx : Receiver) (p : Piece) (out bytes : List ℕ) (r : Taped) (o b : List ℕ) : Type 0 where
  pub always : Is (taped_hearing rx p (length out) (length bytes)) out bytes r o b
  pub owed : (t : Told) → Fine t → rx ≡ machine_of t → Pays (piece_recorded t p (length out) (length bytes)) out bytes r o b

pub record EndPays (d : FinishRecorded) (rx : Receiver) (out bytes : List ℕ) (r : Taped) (o b : List ℕ) : Type 0 where
  pub given : given_of r.why ≡ d.reason
  pub taken : r.taken ≡ 0
  pub written : r.written ≡ length d.words
  pub recorded : r.recorded ≡ space_of d.records
  pub output : Written d.words out o
  pub bytes-are : Fronted d.records bytes b
  pub receiver : r.receiver ≡ cond d.closes shut rx

pub record FinishTaped (rx : Receiver) (out bytes : List ℕ) (r : Taped) (o b : List ℕ) : Type 0 where
  pub always : Is (taped_finishing rx (length out) (length bytes)) out bytes r o b
  pub owed : (t : Told) → Fine t → rx ≡ machine_of t → EndPays (finish_recorded t (length out) (length bytes)) rx out bytes r o b
