-- Runs of the library's recorded calls: any results that its promises allow, one after the other, whichever calls refuse, on words that the
-- caller lends as a state. What was written and recorded is read off `told`, the output and the bytes alone, as a C caller reads it.
--   LibraryRecords k w s ws bs state   after a receiver's opening that was recorded, with the accord k, window w and start number s, and any
--                                      calls, the words ws were written and the bytes bs recorded, and the state holds the receiver
--   LibraryEnded k w s ws bs           the same, and then a finish that succeeded
use Rattle.std.specs.Prelude.{ℕ, ◌≤◌, ◌<◌, ◌≡◌, List, [], ◌++◌, length, get_or, take}
use Rattle.points.specs.declared.Accord.{Accord}
use Rattle.openings.specs.Given.{start_at}
use Rattle.receiver_meaning.specs.Piece.{Piece}
use Rattle.recorder.specs.Promise.{OpenTaped}
use Rattle.c_states.specs.State.{receiver_in}
use Rattle.c_recorder.specs.Calls.{hear_call, finish_call}
use Rattle.c_recorder.specs.Promise.{Records}
use Rattle.demfizagu.specs.Calls.{receiver_opening}
use Rattle.demfizagu.specs.Promise as library

-- told[1] words written, told[3] bytes recorded
abbrev pub written : List ℕ → ℕ
written told = get_or told 1 0

abbrev pub recorded : List ℕ → ℕ
recorded told = get_or told 3 0

pub data LibraryRecords (k : Accord) (w s : ℕ) : List ℕ → List ℕ → List ℕ → Type 0 where
  -- the plain opening is the one with its own window and the start number 16
  opens : (before state : List ℕ) (m : ℕ) → library.Opens receiver_in (receiver_opening before k w (start_at s)) m state → m ≡ 0 →
      (bytes b : List ℕ) (n : ℕ) → OpenTaped k w s bytes n b → n ≡ 0 → LibraryRecords k w s [] (take 4 b) state
  -- a piece with marks or without them
  hears : {ws bs state : List ℕ} → LibraryRecords k w s ws bs state →
      (piece : Piece) (out bytes told : List ℕ) → 4 ≤ length told → (n : ℕ) (state' o b told' : List ℕ) → Records (hear_call state piece out bytes told) n state' o b told' →
      LibraryRecords k w s (ws ++ take (written told') o) (bs ++ take (recorded told') b) state'
  refuses : {ws bs state : List ℕ} → LibraryRecords k w s ws bs state →
      (out bytes told : List ℕ) → 4 ≤ length told → (n : ℕ) (state' o b told' : List ℕ) → Records (finish_call state out bytes told) n state' o b told' → (n ≡ 0 → ⊥) →
      LibraryRecords k w s (ws ++ take (written told') o) (bs ++ take (recorded told') b) state'
  -- a `told` that is too short is an 8, and nothing happens
  short : {ws bs state : List ℕ} → LibraryRecords k w s ws bs state →
      (piece : Piece) (out bytes told : List ℕ) → length told < 4 → (n : ℕ) (state' o b told' : List ℕ) → Records (hear_call state piece out bytes told) n state' o b told' →
      LibraryRecords k w s ws bs state'
  short-finish : {ws bs state : List ℕ} → LibraryRecords k w s ws bs state →
      (out bytes told : List ℕ) → length told < 4 → (n : ℕ) (state' o b told' : List ℕ) → Records (finish_call state out bytes told) n state' o b told' →
      LibraryRecords k w s ws bs state'
  -- a copy is any words that hold the same receiver
  copied : {ws bs state : List ℕ} → LibraryRecords k w s ws bs state → (other : List ℕ) → receiver_in other ≡ receiver_in state → LibraryRecords k w s ws bs other

pub data LibraryEnded (k : Accord) (w s : ℕ) : List ℕ → List ℕ → Type 0 where
  ends : {ws bs state : List ℕ} → LibraryRecords k w s ws bs state →
      (out bytes told : List ℕ) → 4 ≤ length told → (n : ℕ) (state' o b told' : List ℕ) → Records (finish_call state out bytes told) n state' o b told' → n ≡ 0 →
      LibraryEnded k w s (ws ++ take (written told') o) (bs ++ take (recorded told') b)
