-- Runs of calls on the library for C: any results that its promises allow, one after the other, whichever calls refuse, on words that the
-- caller lends as states. What is taken and written is read off `told` and the output alone, as a C caller reads it. A state may be copied
-- at any time: a copy is any words that hold the same end.
--   LibrarySends k ws ps state         after a sender's opening with the accord k, the words ws were accepted and the coordinates ps
--                                      written
--   LibraryHears k w b took ws state   after a receiver's opening, the symbols `took` were taken and the words ws written, and it is open
--   LibraryEnded k w b took ws         the same, and then a finish that succeeded
use Rattle.std.specs.Prelude.{ℕ, ◌≤◌, ◌<◌, ◌≡◌, List, [], ◌∷◌, ◌++◌, ℤ, length, get_or, take}
use Rattle.points.specs.declared.Accord.{Accord}
use Rattle.trellis.specs.Measure.{Two}
use Rattle.nearest.specs.declared.Received.{Received}
use Rattle.receiver_meaning.specs.Piece.{Piece}
use Rattle.openings.specs.declared.Start.{Start}
use Rattle.c_states.specs.State.{sender_in, receiver_in}
use Rattle.demfizagu.specs.Calls.{sender_opening, send_call, send_list_call, receiver_opening, hear_call, finish_call}
use Rattle.demfizagu.specs.Promise as library

-- told[0] symbols taken or words sent, told[1] words or coordinates written
abbrev pub taken : List ℕ → ℕ
taken told = get_or told 0 0

abbrev pub written : List ℕ → ℕ
written told = get_or told 1 0

pub data LibrarySends (k : Accord) : List ℕ → List ℤ → List ℕ → Type 0 where
  opens : (before state : List ℕ) (n : ℕ) → library.Opens sender_in (sender_opening before k) n state → n ≡ 0 → LibrarySends k [] [] state
  takes : {ws : List ℕ} {ps : List ℤ} {state : List ℕ} → LibrarySends k ws ps state → (word n : ℕ) (out o : List ℤ) (state' : List ℕ) →
      library.Sends (send_call state word out) n state' o → n ≡ 0 → LibrarySends k (ws ++ (word ∷ [])) (ps ++ take 4 o) state'
  refuses : {ws : List ℕ} {ps : List ℤ} {state : List ℕ} → LibrarySends k ws ps state → (word n : ℕ) (out o : List ℤ) (state' : List ℕ) →
      library.Sends (send_call state word out) n state' o → (n ≡ 0 → ⊥) → LibrarySends k ws ps state'
  lists : {ws : List ℕ} {ps : List ℤ} {state : List ℕ} → LibrarySends k ws ps state → (words : List ℕ) (out : List ℤ) (told : List ℕ) → 3 ≤ length told →
      (n : ℕ) (state' : List ℕ) (o : List ℤ) (told' : List ℕ) → library.SendsList (send_list_call state words out told) n state' o told' →
      LibrarySends k (ws ++ take (taken told') words) (ps ++ take (written told') o) state'
  short : {ws : List ℕ} {ps : List ℤ} {state : List ℕ} → LibrarySends k ws ps state → (words : List ℕ) (out : List ℤ) (told : List ℕ) → length told < 3 →
      (n : ℕ) (state' : List ℕ) (o : List ℤ) (told' : List ℕ) → library.SendsList (send_list_call state words out told) n state' o told' → LibrarySends k ws ps state'
  copied : {ws : List ℕ} {ps : List ℤ} {state : List ℕ} → LibrarySends k ws ps state → (other : List ℕ) → sender_in other ≡ sender_in state → LibrarySends k ws ps other

pub data LibraryHears (k : Accord) (w : ℕ) (b : Start) : List (Two Received) → List ℕ → List ℕ → Type 0 where
  opens : (before state : List ℕ) (n : ℕ) → library.Opens receiver_in (receiver_opening before k w b) n state → n ≡ 0 → LibraryHears k w b [] [] state
  -- a piece with marks or without them
  hears : {took : List (Two Received)} {ws state : List ℕ} → LibraryHears k w b took ws state →
      (piece : Piece) (out told : List ℕ) → 3 ≤ length told → (n : ℕ) (state' o told' : List ℕ) → library.Answers (hear_call state piece out told) n state' o told' →
      LibraryHears k w b (took ++ take (taken told') piece.symbols) (ws ++ take (written told') o) state'
  refuses : {took : List (Two Received)} {ws state : List ℕ} → LibraryHears k w b took ws state →
      (out told : List ℕ) → 3 ≤ length told → (n : ℕ) (state' o told' : List ℕ) → library.Answers (finish_call state out told) n state' o told' → (n ≡ 0 → ⊥) →
      LibraryHears k w b took (ws ++ take (written told') o) state'
  -- a `told` that is too short is an 8, and nothing happens
  short : {took : List (Two Received)} {ws state : List ℕ} → LibraryHears k w b took ws state →
      (piece : Piece) (out told : List ℕ) → length told < 3 → (n : ℕ) (state' o told' : List ℕ) → library.Answers (hear_call state piece out told) n state' o told' → LibraryHears k w b took ws state'
  short-finish : {took : List (Two Received)} {ws state : List ℕ} → LibraryHears k w b took ws state →
      (out told : List ℕ) → length told < 3 → (n : ℕ) (state' o told' : List ℕ) → library.Answers (finish_call state out told) n state' o told' → LibraryHears k w b took ws state'
  copied : {took : List (Two Received)} {ws state : List ℕ} → LibraryHears k w b took ws state → (other : List ℕ) → receiver_in other ≡ receiver_in state → LibraryHears k w b took ws other

pub data LibraryEnded (k : Accord) (w : ℕ) (b : Start) : List (Two Received) → List ℕ → Type 0 where
  ends : {took : List (Two Received)} {ws state : List ℕ} → LibraryHears k w b took ws state →
      (out told : List ℕ) → 3 ≤ length told → (n : ℕ) (state' o told' : List ℕ) → library.Answers (finish_call state out told) n state' o told' → n ≡ 0 →
      LibraryEnded k w b took (ws ++ take (written told') o)
