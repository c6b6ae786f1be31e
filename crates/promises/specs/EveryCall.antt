-- Runs of every call that takes symbols or writes words, the recorded ones among them, in any mix. That each is a run of plain calls (specs/Talk,
-- specs/Library), so that all demands hold of it, is proved in proofs/EveryCall. 01: "However the list is cut into calls and whichever calls refuse".
--   Called rx zs vs rx'         a call on the receiver rx took the symbols zs and wrote the words vs, and left rx' open
--   Mixed k w b took ws rx      after an opening and any such calls; MixedEnded: and then a finish, recorded or not, that succeeded
--   AnyEnd rx                   "An end is a state that an opening, or a call after it, gave": any call
--   LibraryCalled, LibraryMixed, LibraryMixedEnded   the same of the library's calls, on the caller's words
use Rattle.std.specs.Prelude.{ℕ, ◌≤◌, ◌<◌, ◌≡◌, List, [], ◌++◌, length, take}
use Rattle.points.specs.declared.Accord.{Accord}
use Rattle.trellis.specs.Measure.{Two}
use Rattle.nearest.specs.declared.Received.{Received}
use Rattle.reasons.specs.Reason.{given_of}
use Rattle.receiver_meaning.specs.Piece.{Piece}
use Rattle.openings.specs.declared.Start.{Start}
use Rattle.openings.specs.declared.Opened.{Opened}
use Rattle.openings.specs.Opening.{Receiver, Opens, opening}
use Rattle.receiver.specs.declared.Answer.{Answer}
use Rattle.receiver.specs.Doors.{hearing, finishing}
use Rattle.receiver.specs.Promise.{Hears, Finishes}
use Rattle.recorder.specs.declared.Taped.{Taped}
use Rattle.recorder.specs.Doors.{taped_hearing, taped_finishing}
use Rattle.recorder.specs.Promise.{Tapes, FinishTaped}
use Rattle.c_recorder.specs.Calls as taped
use Rattle.c_recorder.specs.Promise.{Records}
use Rattle.c_states.specs.State.{receiver_in}
use Rattle.demfizagu.specs.Calls.{receiver_opening, hear_call, finish_call}
use Rattle.demfizagu.specs.Promise as library
use Rattle.promises.specs.Library.{taken, written}

-- ---- the receiver's and the recorder's doors

pub data Called (rx : Receiver) : List (Two Received) → List ℕ → Receiver → Type 0 where
  hears : (p : Piece) (out o : List ℕ) (r : Answer) → Hears rx p out r o → Called rx (take r.taken p.symbols) (take r.written o) r.receiver
  tapes : (p : Piece) (out bytes o b : List ℕ) (r : Taped) → Tapes rx p out bytes r o b → Called rx (take r.taken p.symbols) (take r.written o) r.receiver
  refuses : (out o : List ℕ) (r : Answer) → Finishes rx out r o → ((given_of r.why).number ≡ 0 → ⊥) → Called rx [] (take r.written o) r.receiver
  tape-refuses : (out bytes o b : List ℕ) (r : Taped) → FinishTaped rx out bytes r o b → ((given_of r.why).number ≡ 0 → ⊥) → Called rx [] (take r.written o) r.receiver

pub data Mixed (k : Accord) (w : ℕ) (b : Start) : List (Two Received) → List ℕ → Receiver → Type 0 where
  opens : (r : Opened) → Opens k w b r → (given_of r.why).number ≡ 0 → Mixed k w b [] [] r.receiver
  calls : {took zs : List (Two Received)} {ws vs : List ℕ} {rx rx' : Receiver} → Mixed k w b took ws rx → Called rx zs vs rx' → Mixed k w b (took ++ zs) (ws ++ vs) rx'

pub data MixedEnded (k : Accord) (w : ℕ) (b : Start) : List (Two Received) → List ℕ → Type 0 where
  ends : {took : List (Two Received)} {ws : List ℕ} {rx : Receiver} → Mixed k w b took ws rx →
      (out o : List ℕ) (r : Answer) → Finishes rx out r o → (given_of r.why).number ≡ 0 → MixedEnded k w b took (ws ++ take r.written o)
  tape-ends : {took : List (Two Received)} {ws : List ℕ} {rx : Receiver} → Mixed k w b took ws rx →
      (out bytes o b' : List ℕ) (r : Taped) → FinishTaped rx out bytes r o b' → (given_of r.why).number ≡ 0 → MixedEnded k w b took (ws ++ take r.written o)

pub data AnyEnd : Receiver → Type 0 where
  fresh : (k : Accord) (w : ℕ) (b : Start) → AnyEnd (opening k w b).receiver
  heard : {rx : Receiver} → AnyEnd rx → (p : Piece) (room : ℕ) → AnyEnd (hearing rx p room).receiver
  finished : {rx : Receiver} → AnyEnd rx → (room : ℕ) → AnyEnd (finishing rx room).receiver
  taped-heard : {rx : Receiver} → AnyEnd rx → (p : Piece) (room bytes : ℕ) → AnyEnd (taped_hearing rx p room bytes).receiver
  taped-finished : {rx : Receiver} → AnyEnd rx → (room bytes : ℕ) → AnyEnd (taped_finishing rx room bytes).receiver

-- ---- the library's calls

-- a plain call with a `told` of three places, a recorded one with four; a shorter `told` is an 8, and nothing happens; a state may be copied
pub data LibraryCalled (state : List ℕ) : List (Two Received) → List ℕ → List ℕ → Type 0 where
  hears : (piece : Piece) (out told : List ℕ) → 3 ≤ length told → (n : ℕ) (state' o told' : List ℕ) → library.Answers (hear_call state piece out told) n state' o told' →
      LibraryCalled state (take (taken told') piece.symbols) (take (written told') o) state'
  tapes : (piece : Piece) (out bytes told : List ℕ) → 4 ≤ length told → (n : ℕ) (state' o b told' : List ℕ) → Records (taped.hear_call state piece out bytes told) n state' o b told' →
      LibraryCalled state (take (taken told') piece.symbols) (take (written told') o) state'
  refuses : (out told : List ℕ) → 3 ≤ length told → (n : ℕ) (state' o told' : List ℕ) → library.Answers (finish_call state out told) n state' o told' → (n ≡ 0 → ⊥) →
      LibraryCalled state [] (take (written told') o) state'
  tape-refuses : (out bytes told : List ℕ) → 4 ≤ length told → (n : ℕ) (state' o b told' : List ℕ) → Records (taped.finish_call state out bytes told) n state' o b told' → (n ≡ 0 → ⊥) →
      LibraryCalled state [] (take (written told') o) state'
  short : (piece : Piece) (out told : List ℕ) → length told < 3 → (n : ℕ) (state' o told' : List ℕ) → library.Answers (hear_call state piece out told) n state' o told' → LibraryCalled state [] [] state'
  tape-short : (piece : Piece) (out bytes told : List ℕ) → length told < 4 → (n : ℕ) (state' o b told' : List ℕ) → Records (taped.hear_call state piece out bytes told) n state' o b told' →
      LibraryCalled state [] [] state'
  short-finish : (out told : List ℕ) → length told < 3 → (n : ℕ) (state' o told' : List ℕ) → library.Answers (finish_call state out told) n state' o told' → LibraryCalled state [] [] state'
  tape-short-finish : (out bytes told : List ℕ) → length told < 4 → (n : ℕ) (state' o b told' : List ℕ) → Records (taped.finish_call state out bytes told) n state' o b told' →
      LibraryCalled state [] [] state'
  copied : (other : List ℕ) → receiver_in other ≡ receiver_in state → LibraryCalled state [] [] other

pub data LibraryMixed (k : Accord) (w : ℕ) (b : Start) : List (Two Received) → List ℕ → List ℕ → Type 0 where
  opens : (before state : List ℕ) (n : ℕ) → library.Opens receiver_in (receiver_opening before k w b) n state → n ≡ 0 → LibraryMixed k w b [] [] state
  calls : {took zs : List (Two Received)} {ws vs state state' : List ℕ} → LibraryMixed k w b took ws state → LibraryCalled state zs vs state' →
      LibraryMixed k w b (took ++ zs) (ws ++ vs) state'

pub data LibraryMixedEnded (k : Accord) (w : ℕ) (b : Start) : List (Two Received) → List ℕ → Type 0 where
  ends : {took : List (Two Received)} {ws state : List ℕ} → LibraryMixed k w b took ws state →
      (out told : List ℕ) → 3 ≤ length told → (n : ℕ) (state' o told' : List ℕ) → library.Answers (finish_call state out told) n state' o told' → n ≡ 0 →
      LibraryMixedEnded k w b took (ws ++ take (written told') o)
  tape-ends : {took : List (Two Received)} {ws state : List ℕ} → LibraryMixed k w b took ws state →
      (out bytes told : List ℕ) → 4 ≤ length told → (n : ℕ) (state' o b' told' : List ℕ) → Records (taped.finish_call state out bytes told) n state' o b' told' → n ≡ 0 →
      LibraryMixedEnded k w b took (ws ++ take (written told') o)
