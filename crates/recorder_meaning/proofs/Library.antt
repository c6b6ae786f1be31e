-- THE THEOREM FOR C. What the library's recorded calls write, however cut and whichever refuse, on the caller's own words, replays as `agree N`
-- with N the words written, with or without a finish: from the library's promises alone.
--   plain-opening      the plain opening is one with a window and a start number
--   recording, ended   a run of the library's calls is a run of the recorder's doors
--   library-agrees, library-ended-agrees
--   library-recorded, library-ended-recorded   the words recorded are those written to the output, in order
use mathlib.Core.Path.{◌≡◌, refl, sym, ap, subst, ◌∙◌}
use mathlib.Core.Bool.{Bool, true, false, cond}
use mathlib.Core.List.{List, [], ◌++◌}
use Prim.Native.Nat.{ℕ, ◌≤◌, ◌<◌}
use native.Mathlib.Omega.{arith}
use borrow.Author.Tests.{le-ltb, lt-ltb}
use lib.Dec.{eqb, ltb}
use lib.ListN.{length, get_or, take, drop}
use Rattle.points.specs.declared.Accord.{Accord}
use Rattle.reasons.specs.Reason.{given_of}
use Rattle.openings.specs.declared.Start.TheVariants.{Free}
use Rattle.openings.specs.Given.{plain_window, start_at}
use Rattle.openings.specs.Opening.{opening}
use Rattle.openings.proofs.Openings.{opening-opens}
use Rattle.receiver_meaning.specs.Piece.{Piece}
use Rattle.record_write.specs.Front.{space_of}
use Rattle.recorder.specs.Taping.{Ran}
use Rattle.recorder.specs.declared.Taped.{Taped}
use Rattle.recorder.specs.Doors.{taped_hearing, taped_finishing}
use Rattle.recorder.specs.Promise.{Is, OpenTaped}
use Rattle.recorder.proofs.Owes.{tapes, finish-tapes}
use Rattle.c_layout.specs.Layout.{receiver_length}
use Rattle.c_states.specs.State.{receiver_in, words_of_receiver}
use Rattle.c_recorder.specs.Calls.{Call, call_of, hear_call, finish_call}
use Rattle.c_recorder.specs.Promise.{Records}
use Rattle.demfizagu.specs.Calls.{receiver_opening}
use Rattle.demfizagu.specs.Promise as library
use Rattle.replay_judge.specs.declared.Verdict.TheVariants.{Agree}
use Rattle.replay.specs.Meaning.{verdict_of}
use Rattle.recorder_meaning.specs.Recording.{Recording, Ended}
use Rattle.recorder_meaning.specs.Recording as doors
use Rattle.recorder_meaning.specs.Library.{written, recorded, LibraryRecords, opens, hears, refuses, short, short-finish, copied, LibraryEnded, ends}
use Rattle.recorder_meaning.specs.WordsIn.{words_in}
use Rattle.recorder_meaning.proofs.Agrees.{agrees, ended-agrees, words-recorded, ended-recorded}

-- ---- what a call answers

-- the answer of the door behind it
abbrev answer : Ran → Taped
answer r = record { receiver = r.receiver; taken = r.taken; written = length r.words; recorded = space_of r.records; why = r.why }

record Answered (r : Ran) (out bytes : List ℕ) (n : ℕ) (state o b told : List ℕ) : Type 0 where
  number : n ≡ (given_of r.why).number
  reads : receiver_in state ≡ r.receiver
  written_is : written told ≡ length r.words
  recorded-is : recorded told ≡ space_of r.records
  is : Is r out bytes (answer r) o b

-- a `told` of four places is written
answered : (c : Call) (changed : Bool) (r : Ran) (state out bytes told : List ℕ) → c ≡ call_of changed r state out bytes told → (n : ℕ) (state' o b told' : List ℕ) →
    Records c n state' o b told' → Answered r out bytes n state' o b told'
answered c changed r state out bytes told e n state' o b told' a =
    let tells = a.told_is ∙ ap (λ (x : Call). x.told) e in
    record {
      number = a.number ∙ ap (λ (x : Call). x.number) e;
      reads = a.reads ∙ ap (λ (x : Call). x.receiver) e;
      written_is = ap (λ (l : List ℕ). get_or l 1 0) tells;
      recorded-is = ap (λ (l : List ℕ). get_or l 3 0) tells;
      is =
          record {
            receiver = refl;
            taken = refl;
            written = refl;
            recorded = refl;
            given = refl;
            output = a.out-is ∙ ap (λ (x : Call). x.out) e;
            bytes-are = a.bytes-are ∙ ap (λ (x : Call). x.bytes) e;
          };
    }

module _ (state out bytes told : List ℕ) (n : ℕ) (state' o b told' : List ℕ) where
  abbrev heard : Piece → Ran
  heard piece = taped_hearing (receiver_in state) piece (length out) (length bytes)

  abbrev finished : Ran
  finished = taped_finishing (receiver_in state) (length out) (length bytes)

  heard-by : 4 ≤ length told → (piece : Piece) → Records (hear_call state piece out bytes told) n state' o b told' → Answered (heard piece) out bytes n state' o b told'
  unfolding hear_call
  heard-by long piece a =
      answered (hear_call state piece out bytes told) (ltb 0 (heard piece).taken) (heard piece) state out bytes told (rw (le-ltb (length told) 4 long)) n state' o b told' a

  ended_by : 4 ≤ length told → Records (finish_call state out bytes told) n state' o b told' → Answered finished out bytes n state' o b told'
  unfolding finish_call
  ended_by long a =
      answered (finish_call state out bytes told) (eqb (given_of finished.why).number 0) finished state out bytes told (rw (le-ltb (length told) 4 long)) n state' o b told' a

  untold : length told < 4 → (piece : Piece) → Records (hear_call state piece out bytes told) n state' o b told' → receiver_in state' ≡ receiver_in state
  unfolding hear_call
  untold few piece a = a.reads ∙ rw (lt-ltb (length told) 4 few)

  untold-finish : length told < 4 → Records (finish_call state out bytes told) n state' o b told' → receiver_in state' ≡ receiver_in state
  unfolding finish_call
  untold-finish few a = a.reads ∙ rw (lt-ltb (length told) 4 few)

-- ---- runs

-- the plain opening is one of these: its window, and the start number 16
pub plain-opening : (before : List ℕ) (k : Accord) → receiver_opening before k plain_window Free ≡ receiver_opening before k plain_window (start_at 16)
plain-opening before k = refl

module _ (k : Accord) (w s : ℕ) where
  opened : (before state : List ℕ) (m : ℕ) → library.Opens receiver_in (receiver_opening before k w (start_at s)) m state → m ≡ 0 →
      (bytes b : List ℕ) (n : ℕ) → OpenTaped k w s bytes n b → n ≡ 0 → Recording k w s [] (take 4 b) (receiver_in state)
  unfolding receiver_opening
  opened before state m p z bytes b n t e = go (ltb (length before) receiver_length) p
    where
      go : (c : Bool) →
          library.Opens receiver_in
          (cond c (record { number = 8; state = before; end = receiver_in before })
          (record {
            number = (given_of (opening k w (start_at s)).why).number;
            state = words_of_receiver (opening k w (start_at s)).receiver ++ drop receiver_length before;
            end = (opening k w (start_at s)).receiver;
          })) m state →
          Recording k w s [] (take 4 b) (receiver_in state)
      go true q = absurd (omega (arith, q.number))
      go false q =
          let o = opening k w (start_at s) in
          subst (Recording k w s [] (take 4 b)) (sym q.reads)
          (doors.opens (record { receiver = o.receiver; why = o.why }) (opening-opens k w (start_at s)) (sym q.number ∙ z) bytes b n t e)

  pub recording : (ws bs state : List ℕ) → LibraryRecords k w s ws bs state → Recording k w s ws bs (receiver_in state)
  recording ws bs state (opens before st m p z bytes b n t e) = opened before st m p z bytes b n t e
  recording ws bs state (hears {ws = vs} {bs = cs} {state = st} h piece out bytes told long n st' o b told' a) =
      let d = heard-by st out bytes told n st' o b told' long piece a in
      let r = taped_hearing (receiver_in st) piece (length out) (length bytes) in
      rw (d.written_is, d.recorded-is, d.reads)
      (doors.hears (recording vs cs st h) piece out bytes o b (answer r) (tapes (receiver_in st) piece out bytes (answer r) o b d.is))
  recording ws bs state (refuses {ws = vs} {bs = cs} {state = st} h out bytes told long n st' o b told' a z) =
      let d = ended_by st out bytes told n st' o b told' long a in
      let r = taped_finishing (receiver_in st) (length out) (length bytes) in
      rw (d.written_is, d.recorded-is, d.reads)
      (doors.refuses (recording vs cs st h) out bytes o b (answer r) (finish-tapes (receiver_in st) out bytes (answer r) o b d.is) (λ e. z (d.number ∙ e)))
  recording ws bs state (short {state = st} h piece out bytes told few n st' o b told' a) =
      subst (Recording k w s ws bs) (sym (untold st out bytes told n st' o b told' few piece a)) (recording ws bs st h)
  recording ws bs state (short-finish {state = st} h out bytes told few n st' o b told' a) =
      subst (Recording k w s ws bs) (sym (untold-finish st out bytes told n st' o b told' few a)) (recording ws bs st h)
  recording ws bs state (copied {state = st} h other e) = subst (Recording k w s ws bs) (sym e) (recording ws bs st h)

  pub ended : (ws bs : List ℕ) → LibraryEnded k w s ws bs → Ended k w s ws bs
  ended ws bs (ends {ws = vs} {bs = cs} {state = st} h out bytes told long n st' o b told' a z) =
      let d = ended_by st out bytes told n st' o b told' long a in
      let r = taped_finishing (receiver_in st) (length out) (length bytes) in
      rw (d.written_is, d.recorded-is)
      (doors.ends (recording vs cs st h) out bytes o b (answer r) (finish-tapes (receiver_in st) out bytes (answer r) o b d.is) (sym d.number ∙ z))

  -- ---- the theorem

  pub library-agrees : (ws bs state : List ℕ) → LibraryRecords k w s ws bs state → verdict_of bs ≡ Agree (length ws)
  library-agrees ws bs state h = agrees k w s ws bs (receiver_in state) (recording ws bs state h)

  pub library-ended-agrees : (ws bs : List ℕ) → LibraryEnded k w s ws bs → verdict_of bs ≡ Agree (length ws)
  library-ended-agrees ws bs h = ended-agrees k w s ws bs (ended ws bs h)

  pub library-recorded : (ws bs state : List ℕ) → LibraryRecords k w s ws bs state → words_in bs ≡ ws
  library-recorded ws bs state h = words-recorded k w s ws bs (receiver_in state) (recording ws bs state h)

  pub library-ended-recorded : (ws bs : List ℕ) → LibraryEnded k w s ws bs → words_in bs ≡ ws
  library-ended-recorded ws bs h = ended-recorded k w s ws bs (ended ws bs h)
