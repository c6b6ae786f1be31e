-- What each exported function does, as a function of all that it is lent: the number it gives, the lent memory after it, and the end
-- that the state then reads as. Each is
-- the door that it wraps, between reading the state and writing it back; the doors' own definitions say the rest. What the samples do is
-- in c_samples/specs/Calls.
--   Opening, sender_opening, receiver_opening    an opening: 8 where the state is too short, else the door's number and its end
--   Sending, send_call          a word sent
--   ListCall, send_list_call     a list of words sent: 8 where `told` is too short
--   Call, hear_call, finish_call a piece heard, with marks or without; a finish: 8 where `told` is too short, else what the receiver's machine says
--   pending_in, open_in          what is pending in a state; 1 if the state is an open end of either kind, else 0
use Rattle.std.specs.Prelude.{ℕ, ◌*◌, Bool, cond, ◌||◌, List, ◌++◌, eqb, ltb, ℤ, length, drop}
use Rattle.points.specs.declared.Accord.{Accord}
use Rattle.c_samples.specs.Counts.{told_of}
use Rattle.sender.specs.declared.Sender.{Sender}
use Rattle.sender.specs.Send as sender
use Rattle.sender.specs.SendList.{sending_list}
use Rattle.machine.specs.declared.Receiver.{Receiver}
use Rattle.machine.specs.Machine as machine
use Rattle.reasons.specs.Reason.{given_of}
use Rattle.openings.specs.declared.Start.{Start}
use Rattle.openings.specs.Opening.{opening}
use Rattle.receiver_meaning.specs.Piece.{Piece}
use Rattle.receiver.specs.Doors as doors
use Rattle.c_layout.specs.Layout.{sender_length, receiver_length}
use Rattle.c_states.specs.State.{sender_in, words_of_sender, receiver_in, words_of_receiver}

-- ---- openings

pub record Opening (End : Type 0) : Type 0 where
  pub number : ℕ
  pub state : List ℕ
  pub end : End

unfoldable pub sender_opening : List ℕ → Accord → Opening Sender
sender_opening state k =
    let g = sender.opening k in
    cond (ltb (length state) sender_length)
    (record { number = 8; state = state; end = sender_in state })
    (record { number = g.number; state = words_of_sender g.sender ++ drop sender_length state; end = g.sender })

unfoldable pub receiver_opening : List ℕ → Accord → ℕ → Start → Opening Receiver
receiver_opening state k window start =
    let o = opening k window start in
    cond (ltb (length state) receiver_length)
    (record { number = 8; state = state; end = receiver_in state })
    (record { number = (given_of o.why).number; state = words_of_receiver o.receiver ++ drop receiver_length state; end = o.receiver })

-- ---- a word sent

pub record Sending : Type 0 where
  pub number : ℕ
  pub state : List ℕ
  pub sender : Sender
  pub out : List ℤ

-- a refused word leaves the state as it was
unfoldable pub send_call : List ℕ → ℕ → List ℤ → Sending
send_call state word out =
    let g = sender.sending (sender_in state) word out in
    record {
      number = g.number;
      state = cond (eqb g.number 0) (words_of_sender g.sender ++ drop sender_length state) state;
      sender = g.sender;
      out = g.output;
    }

-- ---- a list of words sent

pub record ListCall : Type 0 where
  pub number : ℕ
  pub state : List ℕ
  pub sender : Sender
  pub out : List ℤ
  pub told : List ℕ

-- told[0] words sent, told[1] coordinates written, told[2] 0; where no word was sent the state stays as it was
unfoldable pub send_list_call : List ℕ → List ℕ → List ℤ → List ℕ → ListCall
send_list_call state words out told =
    let g = sending_list (sender_in state) words out in
    cond (ltb (length told) 3) (record { number = 8; state = state; sender = sender_in state; out = out; told = told })
    (record {
      number = g.number;
      state = cond (ltb 0 g.sent) (words_of_sender g.sender ++ drop sender_length state) state;
      sender = g.sender;
      out = g.output;
      told = told_of g.sent (4 * g.sent) 0 told;
    })

-- ---- a piece and a finish

pub record Call : Type 0 where
  pub number : ℕ
  pub state : List ℕ
  pub receiver : Receiver
  pub out : List ℕ
  pub told : List ℕ

-- what the machine did, told to the caller; the state is written where it changed
abbrev pub call_of : Bool → doors.Ran → List ℕ → List ℕ → List ℕ → Call
call_of changed r state out told =
    record {
      number = (given_of r.why).number;
      state = cond changed (words_of_receiver r.receiver ++ drop receiver_length state) state;
      receiver = r.receiver;
      out = r.words ++ drop (length r.words) out;
      told = told_of r.taken (length r.words) (given_of r.why).place told;
    }

-- "`told` shorter than 3 ..: 8, nothing written"
abbrev pub with_told : Call → List ℕ → List ℕ → List ℕ → Call
with_told c state out told = cond (ltb (length told) 3) (record { number = 8; state = state; receiver = receiver_in state; out = out; told = told }) c

-- where no symbol was taken the state stays as it was
unfoldable pub hear_call : List ℕ → Piece → List ℕ → List ℕ → Call
hear_call state piece out told =
    let r = doors.hearing (receiver_in state) piece (length out) in
    with_told (call_of (ltb 0 r.taken) r state out told) state out told

-- where the finish was refused the state stays as it was
unfoldable pub finish_call : List ℕ → List ℕ → List ℕ → Call
finish_call state out told =
    let r = doors.finishing (receiver_in state) (length out) in
    with_told (call_of (eqb (given_of r.why).number 0) r state out told) state out told

-- ---- what a state is

unfoldable pub pending_in : List ℕ → ℕ
pending_in state = let rx = receiver_in state in cond (machine.sound rx) rx.core.pending 0

unfoldable pub open_in : List ℕ → ℕ
open_in state = cond (machine.sound (receiver_in state) || sender.sound (sender_in state)) 1 0
