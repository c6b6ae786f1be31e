-- The outcomes of the recorded calls, one law each over plain values, as demfizagu/proofs/Cases has them of the plain ones.
--   Answered                              the recorder's own answer, told to the caller
--   hear-short, hear-none                 a piece: `told` too short, no receiver
--   Lent, lent-kept, lent_written         a piece to a receiver whose picks were lent in the state: nothing taken, or the state written back
--   finish-short, finish-kept, finish-long, finish-written   a finish
use mathlib.Core.Path.{◌≡◌, refl, sym, ap, subst, ◌∙◌}
use mathlib.Core.Bool.{Bool, true, false}
use mathlib.Core.List.{List, ◌++◌}
use Prim.Native.Nat.{ℕ, ◌≤◌, ◌<◌}
use native.Mathlib.Omega.{arith}
use borrow.Author.Tests.{lt-ltb, le-ltb, eq-eqb, ne_eqb}
use lib.Dec.{eqb, ltb}
use lib.ListN.{length, drop, take-append-drop}
use Rattle.std.specs.Prelude.{Err}
use Rattle.machine.specs.declared.Receiver.{Receiver}
use Rattle.machine.specs.Machine.{shut, sound}
use Rattle.reasons.specs.declared.Why.TheVariants.{Closed}
use Rattle.reasons.specs.Reason.{Reason, given_of}
use Rattle.receiver_meaning.specs.Piece.{Piece}
use Rattle.receiver.specs.Promise.{parts_of}
use Rattle.receiver.proofs.Doors.{lent-live}
use Rattle.record_write.specs.Front.{space_of}
use Rattle.recorder.specs.declared.piece.Kept.{Kept}
use Rattle.recorder.specs.Taping.{Ran}
use Rattle.recorder.specs.declared.Taped.{Taped}
use Rattle.recorder.specs.Doors.{taped_hearing, taped_finishing}
use Rattle.recorder.specs.Promise as recorder
use Rattle.recorder.proofs.Ends.{nothing, tape-closed}
use Rattle.c_layout.specs.Layout.{receiver_length, receiver_tag, picks_at}
use Rattle.c_layout.specs.Tagged.{holds}
use Rattle.lists.proofs.Lent.{part-back}
use Rattle.c_states.specs.declared.Copied.{Copied}
use Rattle.c_states.specs.Front.{copied_in, FrontStored}
use Rattle.c_states.specs.State.{receiver_in, words_of_receiver, read_receiver, ReceiverStored}
use Rattle.c_states.proofs.Back.{front-stored}
use Rattle.c_recorder.specs.Calls.{told_four, call_of, hear_call, finish_call}
use Rattle.c_recorder.specs.Promise.{Records}
use Rattle.c_recorder.proofs.Around.{receiver-long, picks_in, around, long, picks-at, front-is, all_there}
use Rattle.c_recorder.proofs.Ends.{hearing-keeps, hearing-reads, finishing-keeps, finishing-reads, finished_open}

-- ---- any call

pub record Answered (ran : Ran) (out bytes told : List ℕ) (a : Taped) (n : ℕ) (o b t : List ℕ) : Type 0 where
  pub is : recorder.Is ran out bytes a o b
  pub number : n ≡ (given_of a.why).number
  pub tells : t ≡ told_four a.taken a.written (given_of a.why).place a.recorded told

module _ (ran : Ran) (state out bytes told : List ℕ) (a : Taped) (n : ℕ) (o b t : List ℕ) (w : Answered ran out bytes told a n o b t) where
  given-number : n ≡ (given_of ran.why).number
  given-number = w.number ∙ ap (λ (g : Reason). g.number) w.is.given

  told_same : t ≡ told_four ran.taken (length ran.words) (given_of ran.why).place (space_of ran.records) told
  told_same = w.tells ∙ rw (w.is.taken, w.is.written, w.is.given, w.is.recorded)

  answered-kept : (changed : Bool) → changed ≡ false → ran.receiver ≡ receiver_in state → Records (call_of changed ran state out bytes told) n state o b t
  answered-kept changed e same =
      record { number = given-number; state-is = rw e; reads = sym same; out-is = w.is.output; bytes-are = w.is.bytes-are; told_is = told_same }

  answered-written : (changed : Bool) (l : List ℕ) → changed ≡ true → ReceiverStored a.receiver state l → read_receiver ran.receiver ≡ ran.receiver →
      Records (call_of changed ran state out bytes told) n l o b t
  answered-written changed l e f itself =
      record {
        number = given-number;
        state-is = rw e (f.words ∙ ap (λ (rx : Receiver). words_of_receiver rx ++ drop receiver_length state) w.is.receiver);
        reads = f.reads ∙ ap read_receiver w.is.receiver ∙ itself;
        out-is = w.is.output;
        bytes-are = w.is.bytes-are;
        told_is = told_same;
      }

-- ---- a piece

module _ (state : List ℕ) (piece : Piece) (out bytes told : List ℕ) where
  abbrev rx : Receiver
  rx = receiver_in state

  abbrev ran : Ran
  ran = taped_hearing rx piece (length out) (length bytes)

  pub hear-short : length told < 4 → Records (hear_call state piece out bytes told) 8 state out bytes told
  unfolding hear_call
  hear-short h = rw (lt-ltb (length told) 4 h) (record { number = refl; state-is = refl; reads = refl; out-is = refl; bytes-are = refl; told_is = refl })

  module _ (enough : 4 ≤ length told) (a : Taped) (n : ℕ) (o b t : List ℕ) (w : Answered ran out bytes told a n o b t) where
    hear-kept : a.taken ≡ 0 → Records (hear_call state piece out bytes told) n state o b t
    unfolding hear_call
    hear-kept h =
        let none = sym w.is.taken ∙ h in
        rw (le-ltb (length told) 4 enough)
        (answered-kept ran state out bytes told a n o b t w (ltb 0 ran.taken) (rw none) (hearing-keeps rx piece (length out) (length bytes) none))

    hear-written : (l : List ℕ) → (a.taken ≡ 0 → ⊥) → ReceiverStored a.receiver state l → Records (hear_call state piece out bytes told) n l o b t
    unfolding hear_call
    hear-written l h f =
        let e = w.is.taken in
        let itself = hearing-reads rx piece (length out) (length bytes) (λ z. h (e ∙ z)) in
        rw (le-ltb (length told) 4 enough)
        (answered-written ran state out bytes told a n o b t w (ltb 0 ran.taken) l (lt-ltb 0 ran.taken (omega arith)) f itself)

  -- a state that holds no receiver
  pub hear-none : holds receiver_length receiver_tag state ≡ false → 4 ≤ length told → (t : List ℕ) (n : ℕ) → n ≡ 9 → t ≡ told_four 0 0 0 0 told →
      Records (hear_call state piece out bytes told) n state out bytes t
  unfolding receiver_in sound shut
  hear-none none enough t n number tells =
      hear-kept enough (nothing rx (Err Closed)) n out bytes t (record { is = tape-closed rx out bytes piece (rw none); number = number; tells = tells }) refl

-- a piece to a receiver whose picks were lent in their place in the state
pub record Lent (state : List ℕ) (piece : Piece) (out bytes told : List ℕ) : Type 0 where
  pub yes : holds receiver_length receiver_tag state ≡ true
  pub enough : 4 ≤ length told
  pub copied : Copied
  pub loaded : copied ≡ copied_in state
  pub kept : Kept
  pub sums : List ℕ
  pub registers : List ℕ
  pub picks : List ℕ
  pub o : List ℕ
  pub b : List ℕ
  pub was : recorder.TapesLent (parts_of true copied.core copied.sums copied.registers (picks_in state)) piece out bytes kept sums registers picks o b
  pub t : List ℕ
  pub n : ℕ
  pub number : n ≡ (given_of kept.why).number
  pub tells : t ≡ told_four kept.taken kept.written (given_of kept.why).place kept.recorded told

module _ (state : List ℕ) (piece : Piece) (out bytes told : List ℕ) (l : Lent state piece out bytes told) where
  abbrev a : Taped
  a = recorder.taped_parts true l.kept l.sums l.registers l.picks

  abbrev lived : Bool → Receiver
  lived v = parts_of v l.copied.core l.copied.sums l.copied.registers (picks_in state)

  is : recorder.Is (ran state piece out bytes told) out bytes a l.o l.b
  is =
      subst (λ (x : Receiver). recorder.Is (taped_hearing x piece (length out) (length bytes)) out bytes a l.o l.b) (front-is state l.yes l.copied l.loaded)
      (subst Was (lent-live true (picks_in state) (all_there state l.yes)) l.was)
    where
      Was : Bool → Type 0
      Was v =
          recorder.Is (taped_hearing (lived v) piece (length out) (length bytes)) out bytes
          (recorder.taped_parts v l.kept l.sums l.registers l.picks) l.o l.b

  answered : Answered (ran state piece out bytes told) out bytes told a l.n l.o l.b l.t
  answered = record { is = is; number = l.number; tells = l.tells }

  -- where nothing was taken they come back as they were
  unchanged : l.kept.taken ≡ 0 → around state l.picks ≡ state
  unchanged none =
      let left = hearing-keeps (receiver_in state) piece (length out) (length bytes) (sym is.taken ∙ none) in
      let same : l.picks ≡ picks_in state = ap (λ (x : Receiver). x.picks) (is.receiver ∙ left) ∙ picks-at state l.yes in
      rw (same, take-append-drop 72 (drop picks_at state)) (take-append-drop picks_at state)

  pub lent-kept : l.kept.taken ≡ 0 → Records (hear_call state piece out bytes told) l.n (around state l.picks) l.o l.b l.t
  lent-kept none = rw (unchanged none) (hear-kept state piece out bytes told l.enough a l.n l.o l.b l.t answered none)

  -- where a symbol was taken they stand behind what is written back
  pub lent_written : (s : List ℕ) → length l.picks ≡ 72 → (l.kept.taken ≡ 0 → ⊥) →
      FrontStored true l.kept.core l.sums l.registers (around state l.picks) s → Records (hear_call state piece out bytes told) l.n s l.o l.b l.t
  lent_written s sized some f =
      hear-written state piece out bytes told l.enough a l.n l.o l.b l.t answered s some
      (front-stored a.receiver state (around state l.picks) f sized (part-back state l.picks picks_at 72 (long state l.yes)))

-- ---- a finish

module _ (state out bytes told : List ℕ) where
  pub finish-short : length told < 4 → Records (finish_call state out bytes told) 8 state out bytes told
  unfolding finish_call
  finish-short h = rw (lt-ltb (length told) 4 h) (record { number = refl; state-is = refl; reads = refl; out-is = refl; bytes-are = refl; told_is = refl })

  abbrev ends : Ran
  ends = taped_finishing (receiver_in state) (length out) (length bytes)

  module _ (enough : 4 ≤ length told) (a : Taped) (n : ℕ) (o b t : List ℕ) (w : Answered ends out bytes told a n o b t) where
    same : n ≡ (given_of ends.why).number
    same = given-number ends state out bytes told a n o b t w

    abbrev changed : Bool
    changed = eqb (given_of ends.why).number 0

    pub finish-kept : (n ≡ 0 → ⊥) → Records (finish_call state out bytes told) n state o b t
    unfolding finish_call same
    finish-kept h =
        let some : (given_of ends.why).number ≡ 0 → ⊥ = λ z. h (same ∙ z) in
        rw (le-ltb (length told) 4 enough)
        (answered-kept ends state out bytes told a n o b t w changed (ne_eqb _ _ some) (finishing-keeps (receiver_in state) (length out) (length bytes) some))

    pub finish-written : (l : List ℕ) → n ≡ 0 → ReceiverStored a.receiver state l → Records (finish_call state out bytes told) n l o b t
    unfolding finish_call same
    finish-written l h f =
        let none = sym same ∙ h in
        rw (le-ltb (length told) 4 enough)
        (answered-written ends state out bytes told a n o b t w changed l (eq-eqb _ _ none) f (finishing-reads (receiver_in state) (length out) (length bytes) none))

    pub finish-long : n ≡ 0 → receiver_length ≤ length state
    unfolding same
    finish-long h = receiver-long state (finished_open (receiver_in state) (length out) (length bytes) (sym same ∙ h))
