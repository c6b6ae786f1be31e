-- What a line is guaranteed whose noise has a bound: no refusal but for want of room, and no word late. Both are said of any runs of calls on
-- the two ends, and of the library's calls as a C caller sees them.
--   Fair m                       the number m of a piece: taken whole (0), no room in the output for the next words (8), or a piece that does
--                                not fit (10). Not a 5, and not a 6
--   Guarantee ac b n w           on a line of the accord ac, where each received coordinate is at most n line units off, a receiver with the
--                                start b and a window of w
--   LibraryGuarantee ac b n w    the same of the library's calls
--   Guaranteed ac b n w          both
--   MixedGuarantee ac b n w      of runs of the library's calls in which some are recorded and some not, in any mix
use Rattle.std.specs.Prelude.{◌≡◌, ◌⊎◌, ℕ, ◌+◌, ◌-◌, ◌≤◌, ℤ, length, take}
use mathlib.Core.List.{List, ◌++◌, IsPrefix}
use Rattle.points.specs.declared.Accord.{Accord}
use Rattle.trellis.specs.Measure.{Two}
use Rattle.trellis.specs.Words.{as_heard}
use Rattle.nearest.specs.declared.Received.{Received}
use Rattle.reasons.specs.Reason.{given_of}
use Rattle.receiver_meaning.specs.Piece.{Piece}
use Rattle.openings.specs.declared.Start.{Start}
use Rattle.openings.specs.Given.{start_of}
use Rattle.openings.specs.Opening.{Receiver}
use Rattle.receiver.specs.declared.Answer.{Answer}
use Rattle.receiver.specs.Promise.{Hears}
use Rattle.sender.specs.declared.Sender.{Sender}
use Rattle.sender.specs.Run as sender
use Rattle.c_recorder.specs.Calls as taped
use Rattle.c_recorder.specs.Promise.{Records}
use Rattle.demfizagu.specs.Calls.{hear_call}
use Rattle.demfizagu.specs.Promise as library
use Rattle.promises.specs.Talk.{Talk}
use Rattle.promises.specs.Noise.{Near, Carried}
use Rattle.promises.specs.Library.{LibrarySends, LibraryHears}
use Rattle.promises.specs.EveryCall.{LibraryMixed}

abbrev pub Fair : ℕ → Type 0
Fair m = (m ≡ 0) ⊎ ((m ≡ 8) ⊎ (m ≡ 10))

pub record Guarantee (ac : Accord) (b : Start) (n w : ℕ) : Type 0 where
  -- a piece that goes on with what was sent, with marks or without: no symbol that is carried misses a point
  pub no_six : (sent : List ℕ) (ps : List ℤ) (s : Sender) → sender.Talk ac sent ps s → (took : List (Two Received)) (ws : List ℕ) (rx : Receiver) → Talk ac w b took ws rx →
      (q : Piece) → Carried (Near n) (took ++ q.symbols) ps → (out o : List ℕ) (r : Answer) → Hears rx q out r o → Fair (given_of r.why).number
  -- after every symbol, in any window v: at most w are pending, so a word is final after at most w more symbols
  pub pending : (sent : List ℕ) (ps : List ℤ) (s : Sender) → sender.Talk ac sent ps s → (v : ℕ) (took : List (Two Received)) (ws : List ℕ) (rx : Receiver) → Talk ac v b took ws rx →
      Carried (Near n) took ps → length took ≤ length ws + w
  -- and the words of all symbols but the last w are written, as they were sent
  pub no-late : (sent : List ℕ) (ps : List ℤ) (s : Sender) → sender.Talk ac sent ps s → (v : ℕ) (took : List (Two Received)) (ws : List ℕ) (rx : Receiver) → Talk ac v b took ws rx →
      Carried (Near n) took ps → IsPrefix (take (length took - w) (as_heard (start_of b) sent)) ws

pub record LibraryGuarantee (ac : Accord) (b : Start) (n w : ℕ) : Type 0 where
  -- `m` is the number that demfizagu_hear or demfizagu_hear_marked gives for the piece
  pub no_six : (sent : List ℕ) (ps : List ℤ) (s : List ℕ) → LibrarySends ac sent ps s → (took : List (Two Received)) (ws state : List ℕ) → LibraryHears ac w b took ws state →
      (q : Piece) → Carried (Near n) (took ++ q.symbols) ps → (out told : List ℕ) → 3 ≤ length told → (m : ℕ) (state' o told' : List ℕ) →
      library.Answers (hear_call state q out told) m state' o told' → Fair m
  pub pending : (sent : List ℕ) (ps : List ℤ) (s : List ℕ) → LibrarySends ac sent ps s → (v : ℕ) (took : List (Two Received)) (ws state : List ℕ) → LibraryHears ac v b took ws state →
      Carried (Near n) took ps → length took ≤ length ws + w
  pub no-late : (sent : List ℕ) (ps : List ℤ) (s : List ℕ) → LibrarySends ac sent ps s → (v : ℕ) (took : List (Two Received)) (ws state : List ℕ) → LibraryHears ac v b took ws state →
      Carried (Near n) took ps → IsPrefix (take (length took - w) (as_heard (start_of b) sent)) ws

pub record Guaranteed (ac : Accord) (b : Start) (n w : ℕ) : Type 0 where
  pub ends : Guarantee ac b n w
  pub calls : LibraryGuarantee ac b n w

-- a recorded piece may also be stopped for want of room in its bytes, an 8
pub record MixedGuarantee (ac : Accord) (b : Start) (n w : ℕ) : Type 0 where
  pub no_six : (sent : List ℕ) (ps : List ℤ) (s : List ℕ) → LibrarySends ac sent ps s → (took : List (Two Received)) (ws state : List ℕ) → LibraryMixed ac w b took ws state →
      (q : Piece) → Carried (Near n) (took ++ q.symbols) ps → (out told : List ℕ) → 3 ≤ length told → (m : ℕ) (state' o told' : List ℕ) →
      library.Answers (hear_call state q out told) m state' o told' → Fair m
  pub no-six-recorded : (sent : List ℕ) (ps : List ℤ) (s : List ℕ) → LibrarySends ac sent ps s → (took : List (Two Received)) (ws state : List ℕ) → LibraryMixed ac w b took ws state →
      (q : Piece) → Carried (Near n) (took ++ q.symbols) ps → (out bytes told : List ℕ) → 4 ≤ length told → (m : ℕ) (state' o bytes' told' : List ℕ) →
      Records (taped.hear_call state q out bytes told) m state' o bytes' told' → Fair m
  pub pending : (sent : List ℕ) (ps : List ℤ) (s : List ℕ) → LibrarySends ac sent ps s → (v : ℕ) (took : List (Two Received)) (ws state : List ℕ) → LibraryMixed ac v b took ws state →
      Carried (Near n) took ps → length took ≤ length ws + w
  pub no-late : (sent : List ℕ) (ps : List ℤ) (s : List ℕ) → LibrarySends ac sent ps s → (v : ℕ) (took : List (Two Received)) (ws state : List ℕ) → LibraryMixed ac v b took ws state →
      Carried (Near n) took ps → IsPrefix (take (length took - w) (as_heard (start_of b) sent)) ws
