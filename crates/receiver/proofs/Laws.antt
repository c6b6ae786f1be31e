-- What callers of the doors may rely on, beside the promises.
--   hears-fit, finishes-fit     a call writes no more words than the room it was lent
--   fresh-most, finish-most     one symbol and a finish write at most 64 words each
--   never-short                 with room for all pending words and the piece's own, no piece is refused with 8
use mathlib.Core.Path.{◌≡◌, refl}
use mathlib.Core.Bool.{Bool, true, false, cond}
use mathlib.Core.List.{List, [], ◌∷◌}
use Prim.Native.Nat.{ℕ, ◌+◌, ◌-◌, ◌≤◌, ◌<◌}
use native.Mathlib.Omega.{arith}
use borrow.Author.Tests.{eqb-true, ltb-true, ltb-false}
use lib.Dec.{eqb, ltb}
use lib.ListN.{length}
use Rattle.std.specs.Prelude.{Ok, Err}
use Rattle.calls.specs.Calls.{walk, after, fresh}
use Rattle.trellis.specs.Measure.{Two}
use Rattle.nearest.specs.declared.Received.{Received}
use Rattle.machine.specs.declared.Receiver.{Receiver}
use Rattle.reasons.specs.declared.Why.TheVariants.{NoRoom, Closed, Uneven}
use Rattle.machine.specs.Machine.{shut, last_words, sound}
use Rattle.receiver_meaning.specs.Told.{Told, with_heard, speaker_of, pending_after, fault_of, judge_symbol, judge_of, Fine}
use Rattle.reasons.specs.Reason.{reason}
use Rattle.machine.proofs.Finish.{last-many}
use Rattle.machine.proofs.Owed.{fresh_kept, rest-most}
pub use Rattle.machine.proofs.Owed.{fresh-most}
use Rattle.receiver.specs.declared.Answer.{Answer}
use Rattle.receiver_meaning.specs.Piece.{Piece}
use Rattle.pieces.specs.Running.{Ran, running}
use Rattle.receiver.specs.Doors.{stopped, hearing, finishing}
use Rattle.receiver_meaning.specs.Owed.{Owed, ended_of, piece_owed, finish_owed}
use Rattle.receiver_meaning.proofs.Cases.{finish-cases}
use Rattle.receiver.specs.Promise.{Hears, Finishes}
use Rattle.pieces.proofs.Room.{running-few}
use Rattle.pieces.proofs.Symbols.{symbol-judged}

-- ---- room

module _ (rx : Receiver) (room : ℕ) where
  hearing-few : (p : Piece) → length (hearing rx p room).words ≤ room
  unfolding hearing
  hearing-few p = go (sound rx) p.fits
    where
      go : (a b : Bool) → length (cond a (cond b (running p.symbols rx 0 [] room) (stopped rx (Err Uneven))) (stopped rx (Err Closed))).words ≤ room
      go true true = running-few p.symbols rx 0 [] room (omega arith)
      go true false = omega arith
      go false b = omega arith

  finishing-few : length (finishing rx room).words ≤ room
  unfolding finishing
  finishing-few = go (sound rx) (ltb room rx.core.pending) refl
    where
      done : Ran
      done = record { receiver = shut; taken = 0; words = last_words rx; why = Ok tt }

      go : (a b : Bool) → ltb room rx.core.pending ≡ b → length (cond a (cond b (stopped rx (Err NoRoom)) done) (stopped rx (Err Closed))).words ≤ room
      go true true e = omega arith
      go true false e = omega (arith, last-many rx, ltb-false room rx.core.pending e)
      go false b e = omega arith

pub hears-fit : (rx : Receiver) (p : Piece) (out : List ℕ) (r : Answer) (o : List ℕ) → Hears rx p out r o → r.written ≤ length out
hears-fit rx p out r o h = omega (arith, h.always.written, hearing-few rx (length out) p)

pub finishes-fit : (rx : Receiver) (out : List ℕ) (r : Answer) (o : List ℕ) → Finishes rx out r o → r.written ≤ length out
finishes-fit rx out r o h = omega (arith, h.always.written, finishing-few rx (length out))

-- ---- words

module _ (t : Told) (f : Fine t) where
  pub finish-most : (room : ℕ) → length (finish_owed t room).words ≤ 64
  finish-most room = finish-cases t room (λ d. length d.words ≤ 64) (λ _. omega arith) (λ _. rest-most t f)

-- ---- room enough

module _ (t : Told) where
  -- what an 8 means
  eight : (ys : List (Two Received)) (y : Two Received) (room : ℕ) → (judge_symbol t ys y room).number ≡ 8 → room < length (fresh (speaker_of t) ys y)
  unfolding judge_symbol
  eight ys y room = go (ltb (fault_of y) 4) (ltb t.window (pending_after t (y ∷ ys))) (ltb room (length (fresh (speaker_of t) ys y))) refl
    where
      go : (a c d : Bool) → ltb room (length (fresh (speaker_of t) ys y)) ≡ d →
          (cond a (record { number = 5; place = fault_of y }) (cond c (reason 6) (cond d (reason 8) (reason 0)))).number ≡ 8 →
          room < length (fresh (speaker_of t) ys y)
      go true c d h z = absurd (omega arith)
      go false true d h z = absurd (omega arith)
      go false false false h z = absurd (omega arith)
      go false false true h z = ltb-true room (length (fresh (speaker_of t) ys y)) h

  enough : (zs ys : List (Two Received)) → Fine (with_heard t ys) → (room : ℕ) → length zs + pending_after t ys ≤ room → (walk (speaker_of t) (judge_of t) ys zs room).why.number ≡ 8 → ⊥
  unfolding walk
  enough [] ys f room h = λ z. omega arith
  enough (y ∷ zs) ys f room h = go (enough zs (y ∷ ys)) (eqb (judge_symbol t ys y room).number 0) refl
    where
      left : ℕ
      left = room - length (fresh (speaker_of t) ys y)

      go : (Fine (with_heard t (y ∷ ys)) → (m : ℕ) → length zs + pending_after t (y ∷ ys) ≤ m → (walk (speaker_of t) (judge_of t) (y ∷ ys) zs m).why.number ≡ 8 → ⊥) →
          (b : Bool) → eqb (judge_symbol t ys y room).number 0 ≡ b →
          (after (speaker_of t) (judge_of t) ys y (judge_symbol t ys y room) b (walk (speaker_of t) (judge_of t) (y ∷ ys) zs left)).why.number ≡ 8 → ⊥
      go ih false e z = omega (arith, eight ys y room z, fresh_kept (with_heard t ys) f y)
      go ih true e z =
          let g : Fine (with_heard t (y ∷ ys)) = (symbol-judged t ys f y room).fine (eqb-true (judge_symbol t ys y room).number 0 e) in
          ih g left (omega (arith, fresh_kept (with_heard t ys) f y)) z

  pub never-short : Fine t → (p : Piece) (room : ℕ) → length p.symbols + pending_after t t.heard ≤ room → (piece_owed t p room).reason.number ≡ 8 → ⊥
  unfolding piece_owed
  never-short f p room h = go p.fits
    where
      ends : Owed
      ends = let r = ended_of t p room in record { reason = r.why; taken = r.taken; words = r.said; told = with_heard t r.heard }

      go : (b : Bool) → (cond b ends (record { reason = reason 10; taken = 0; words = []; told = t })).reason.number ≡ 8 → ⊥
      go false z = omega arith
      go true z = enough p.symbols t.heard f room h z
