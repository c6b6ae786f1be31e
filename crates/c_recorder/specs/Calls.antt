-- What the recorded calls of the library do, as functions of all that they are lent: the number, the lent memory after it, and the receiver
-- that the state then reads as. Each is the recorder's own function, between reading the state and writing it back.
--   told_four a b p n told      `told` with its first four places written: told[3] is how many bytes were recorded
--   Call, call_of, with_told     a call; what the machine did, told to the caller; 8 where `told` is too short
--   hear_call, finish_call       a piece heard, with marks or without; a finish
use Rattle.std.specs.Prelude.{ℕ, Bool, cond, List, ◌∷◌, ◌++◌, eqb, ltb, length, drop}
use Rattle.machine.specs.declared.Receiver.{Receiver}
use Rattle.reasons.specs.Reason.{given_of}
use Rattle.receiver_meaning.specs.Piece.{Piece}
use Rattle.records.specs.Values.{bytes_of}
use Rattle.record_write.specs.Front.{space_of}
use Rattle.recorder.specs.Taping.{Ran}
use Rattle.recorder.specs.Doors.{taped_hearing, taped_finishing}
use Rattle.c_layout.specs.Layout.{receiver_length}
use Rattle.c_states.specs.State.{receiver_in, words_of_receiver}

abbrev pub told_four : ℕ → ℕ → ℕ → ℕ → List ℕ → List ℕ
told_four a b p n told = a ∷ b ∷ p ∷ n ∷ drop 4 told

pub record Call : Type 0 where
  pub number : ℕ
  pub state : List ℕ
  pub receiver : Receiver
  pub out : List ℕ
  pub bytes : List ℕ
  pub told : List ℕ

-- the state is written where it changed
abbrev pub call_of : Bool → Ran → List ℕ → List ℕ → List ℕ → List ℕ → Call
call_of changed r state out bytes told =
    record {
      number = (given_of r.why).number;
      state = cond changed (words_of_receiver r.receiver ++ drop receiver_length state) state;
      receiver = r.receiver;
      out = r.words ++ drop (length r.words) out;
      bytes = bytes_of r.records ++ drop (length (bytes_of r.records)) bytes;
      told = told_four r.taken (length r.words) (given_of r.why).place (space_of r.records) told;
    }

-- "8 if told is shorter than 4 (nothing written)"
abbrev pub with_told : Call → List ℕ → List ℕ → List ℕ → List ℕ → Call
with_told c state out bytes told = cond (ltb (length told) 4) (record { number = 8; state = state; receiver = receiver_in state; out = out; bytes = bytes; told = told }) c

-- where no symbol was taken the state stays as it was
unfoldable pub hear_call : List ℕ → Piece → List ℕ → List ℕ → List ℕ → Call
hear_call state piece out bytes told =
    let r = taped_hearing (receiver_in state) piece (length out) (length bytes) in
    with_told (call_of (ltb 0 r.taken) r state out bytes told) state out bytes told

-- where the finish was refused the state stays as it was
unfoldable pub finish_call : List ℕ → List ℕ → List ℕ → List ℕ → Call
finish_call state out bytes told =
    let r = taped_finishing (receiver_in state) (length out) (length bytes) in
    with_told (call_of (eqb (given_of r.why).number 0) r state out bytes told) state out bytes told
