-- The promises of the receiver's doors. `always` fixes result and output for every record, so any two results are equal (proofs/Settled);
-- `owed` says, for whatever the receiver has been told, what that is in the words of 01.
--   parts_of, answer_of        a receiver, and an answer, put together from their parts
--   lent_live live picks      whether parts that are lent are those of a live receiver
--   HearsLent                what a piece does to such parts
--   Hears rx p out r o       the promise of `hear`, where the output holds `out` before the call and `o` after it
--   Finishes rx out r o      the promise of `finish`
use Rattle.std.specs.Prelude.{ℕ, ◌≡◌, Bool, cond, ◌&&◌, List, eqb, length}
use Rattle.machine.specs.declared.Core.{Core}
use Rattle.machine.specs.declared.Receiver.{Receiver}
use Rattle.machine.specs.Machine.{shut, machine_of}
use Rattle.receiver_meaning.specs.Told.{Told, Fine}
use Rattle.reasons.specs.Reason.{given_of}
use Rattle.receiver.specs.declared.Answer.{Answer}
use Rattle.pieces.specs.declared.Heard.{Heard}
use Rattle.pieces.specs.Running.{Ran, Written}
use Rattle.receiver_meaning.specs.Piece.{Piece}
use Rattle.receiver.specs.Doors.{hearing, finishing}
use Rattle.receiver_meaning.specs.Owed.{Owed, piece_owed, FinishOwed, finish_owed}

-- ---- a piece and a finish

-- the answer is that of the machine
pub record Is (ran : Ran) (out : List ℕ) (r : Answer) (o : List ℕ) : Type 0 where
  pub receiver : r.receiver ≡ ran.receiver
  pub taken : r.taken ≡ ran.taken
  pub written : r.written ≡ length ran.words
  pub given : given_of r.why ≡ given_of ran.why
  pub output : Written ran.words out o

-- a receiver from its parts; whether it is live where its picks are lent: there have to be 72 of them; and the answer of a call to which
-- the parts were lent
abbrev pub parts_of : Bool → Core → List ℕ → List ℕ → List ℕ → Receiver
parts_of live core sums registers picks = record { live = live; core = core; sums = sums; registers = registers; picks = picks }

abbrev pub lent_live : Bool → List ℕ → Bool
lent_live live picks = live && eqb (length picks) 72

abbrev pub answer_of : Bool → Heard → List ℕ → List ℕ → List ℕ → Answer
answer_of live r sums registers picks = record { receiver = parts_of live r.core sums registers picks; taken = r.taken; written = r.written; why = r.why }

-- the promise of a piece to a receiver in its parts, whose lists are lent: before the call they hold sums, registers and picks
abbrev pub HearsLent : Bool → Core → List ℕ → List ℕ → List ℕ → Piece → List ℕ → Heard → List ℕ → List ℕ → List ℕ → List ℕ → Type 0
HearsLent live core sums registers picks p out r sums' registers' picks' o =
    Is (hearing (parts_of (lent_live live picks) core sums registers picks) p (length out)) out (answer_of (lent_live live picks) r sums' registers' picks') o

-- the answer is what is owed for what the receiver has been told
pub record Pays (d : Owed) (out : List ℕ) (r : Answer) (o : List ℕ) : Type 0 where
  pub given : given_of r.why ≡ d.reason
  pub taken : r.taken ≡ d.taken
  pub written : r.written ≡ length d.words
  pub output : Written d.words out o
  pub fine : Fine d.told
  pub receiver : r.receiver ≡ machine_of d.told

pub record Hears (rx : Receiver) (p : Piece) (out : List ℕ) (r : Answer) (o : List ℕ) : Type 0 where
  pub always : Is (hearing rx p (length out)) out r o
  pub owed : (t : Told) → Fine t → rx ≡ machine_of t → Pays (piece_owed t p (length out)) out r o

pub record EndPays (d : FinishOwed) (rx : Receiver) (out : List ℕ) (r : Answer) (o : List ℕ) : Type 0 where
  pub given : given_of r.why ≡ d.reason
  pub taken : r.taken ≡ 0
  pub written : r.written ≡ length d.words
  pub output : Written d.words out o
  pub receiver : r.receiver ≡ cond d.closes shut rx

pub record Finishes (rx : Receiver) (out : List ℕ) (r : Answer) (o : List ℕ) : Type 0 where
  pub always : Is (finishing rx (length out)) out r o
  pub owed : (t : Told) → Fine t → rx ≡ machine_of t → EndPays (finish_owed t (length out)) rx out r o
