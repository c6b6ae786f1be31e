-- 01's table "Numbers given back", door by door: each number with all that is so when it is given, the tests before it in their order
-- among them. Demand 1 says that a number is given exactly then (proofs/Demand1). 7 is given no more (02, Wish 6).
--   SenderOpens k n         the sender's opening gives n
--   SendGives s n out k     sending the word n into `out` gives k
--   WordsGive u ns room m k   the words ns of an open sender of width u, into so many places, give k after m of them were sent
--   ListGives s ns out m k  sending the list ns into `out` gives k after m of its words were sent
--   ReceiverOpens k w b n   the receiver's opening gives n
--   SymbolGives t ys y room g   the symbol y, heard after ys with room for so many words, is answered with g
--   Takes t ys zs room n    the symbols zs, heard after ys, are all taken, and write n words
--   PieceGives t q room m n g   a piece q gives g, after m symbols taken and n words written
--   FinishGives t room k    a finish gives k
-- A receiver that has been told t is open; a closed one is answered 9, as said in proofs/Demand1.
use Rattle.std.specs.Prelude.{ℕ, ◌+◌, ◌-◌, ◌*◌, ◌≤◌, ◌<◌, ◌≡◌, true, false, ◌⊎◌, List, [], ◌∷◌, ◌++◌, reverse, ℤ, length, take, drop}
use Rattle.points.specs.declared.Accord.{Accord}
use Rattle.points.specs.Agreed.{is_accord}
use Rattle.wei.specs.Word.{is_word}
use Rattle.calls.specs.Calls.{fresh, rest}
use Rattle.trellis.specs.Lists.{Every}
use Rattle.trellis.specs.Measure.{Two}
use Rattle.nearest.specs.declared.Received.{Received}
use Rattle.nearest.specs.Line.{BothInRange}
use Rattle.receiver_meaning.specs.Told.{Told, speaker_of, pending_after, fault_of}
use Rattle.reasons.specs.Reason.{Reason, reason}
use Rattle.sender.specs.declared.Sender.{Sender}
use Rattle.openings.specs.declared.Start.{Start}
use Rattle.openings.specs.declared.Start.TheVariants.{At}
use Rattle.openings.specs.Given.{start_fits}
use Rattle.receiver_meaning.specs.Piece.{Piece}

-- "u above 8 at an opening"; "a sender has only 1"
pub data SenderOpens (k : Accord) : ℕ → Type 0 where
  one : is_accord k ≡ false → SenderOpens k 1
  done : is_accord k ≡ true → SenderOpens k 0

-- "Sending one word: 9, 4, 8"
pub data SendGives (s : Sender) (n : ℕ) (out : List ℤ) : ℕ → Type 0 where
  nine : s.live ≡ false → SendGives s n out 9
  four : s.live ≡ true → is_word s.accord.u n ≡ false → SendGives s n out 4
  eight : s.live ≡ true → is_word s.accord.u n ≡ true → length out < 4 → SendGives s n out 8
  done : s.live ≡ true → is_word s.accord.u n ≡ true → 4 ≤ length out → SendGives s n out 0

-- "It stops at the first word that would be refused and says how many were sent and why; words before it stay sent" (02, Wish 1): the m words
-- before it are words and have four places each
pub data WordsGive (u : ℕ) (ns : List ℕ) (room m : ℕ) : ℕ → Type 0 where
  whole : m ≡ length ns → Every (λ n. is_word u n ≡ true) ns → 4 * m ≤ room → WordsGive u ns room m 0
  four : Every (λ n. is_word u n ≡ true) (take m ns) → 4 * m ≤ room → (n : ℕ) (later : List ℕ) → drop m ns ≡ n ∷ later → is_word u n ≡ false → WordsGive u ns room m 4
  eight : Every (λ n. is_word u n ≡ true) (take m ns) → 4 * m ≤ room → (n : ℕ) (later : List ℕ) → drop m ns ≡ n ∷ later → is_word u n ≡ true → room < 4 * m + 4 → WordsGive u ns room m 8

-- "An empty list to an open sender sends nothing and answers 0, to a closed one 9" (02, Wish 1)
pub data ListGives (s : Sender) (ns : List ℕ) (out : List ℤ) (m : ℕ) : ℕ → Type 0 where
  nine : s.live ≡ false → m ≡ 0 → ListGives s ns out m 9
  goes : s.live ≡ true → (k : ℕ) → WordsGive s.accord.u ns (length out) m k → ListGives s ns out m k

-- "Opening order: 1, 2, 3": "u above 8", "window not 1 to 64", "named start above 15"
pub data ReceiverOpens (k : Accord) (w : ℕ) (b : Start) : ℕ → Type 0 where
  one : is_accord k ≡ false → ReceiverOpens k w b 1
  two : is_accord k ≡ true → (w ≡ 0) ⊎ (64 < w) → ReceiverOpens k w b 2
  three : is_accord k ≡ true → 1 ≤ w → w ≤ 64 → (n : ℕ) → b ≡ At n → 15 < n → ReceiverOpens k w b 3
  done : is_accord k ≡ true → 1 ≤ w → w ≤ 64 → start_fits b ≡ true → ReceiverOpens k w b 0

-- "The order of checks becomes 5, 6, 8" (02, Wish 6)
pub data SymbolGives (t : Told) (ys : List (Two Received)) (y : Two Received) (room : ℕ) : Reason → Type 0 where
  five : fault_of y < 4 → SymbolGives t ys y room (record { number = 5; place = fault_of y })
  six : BothInRange y → t.window < pending_after t (y ∷ ys) → SymbolGives t ys y room (reason 6)
  eight : BothInRange y → pending_after t (y ∷ ys) ≤ t.window → room < length (fresh (speaker_of t) ys y) → SymbolGives t ys y room (reason 8)
  taken : BothInRange y → pending_after t (y ∷ ys) ≤ t.window → length (fresh (speaker_of t) ys y) ≤ room → SymbolGives t ys y room (reason 0)

-- "Earlier symbols of that piece stay taken": the symbols zs, heard after ys, were each answered with 0 in the room left then, and n is the
-- sum of their words
pub data Takes (t : Told) : List (Two Received) → List (Two Received) → ℕ → ℕ → Type 0 where
  none : (ys : List (Two Received)) (room : ℕ) → Takes t ys [] room 0
  next : (ys zs : List (Two Received)) (y : Two Received) (room n : ℕ) → SymbolGives t ys y room (reason 0) →
      Takes t (y ∷ ys) zs (room - length (fresh (speaker_of t) ys y)) n → Takes t ys (y ∷ zs) room (length (fresh (speaker_of t) ys y) + n)

-- "A piece: 9, 10, then symbol by symbol .., stopping at the first refusal"
pub data PieceGives (t : Told) (q : Piece) (room m n : ℕ) : Reason → Type 0 where
  ten : q.fits ≡ false → m ≡ 0 → n ≡ 0 → PieceGives t q room m n (reason 10)
  whole : q.fits ≡ true → m ≡ length q.symbols → Takes t t.heard q.symbols room n → PieceGives t q room m n (reason 0)
  stopped : q.fits ≡ true → (y : Two Received) (later : List (Two Received)) → drop m q.symbols ≡ y ∷ later → Takes t t.heard (take m q.symbols) room n →
      (g : Reason) → (g.number ≡ 0 → ⊥) → SymbolGives t (reverse (take m q.symbols) ++ t.heard) y (room - n) g → PieceGives t q room m n g

-- "Finish: 9, 8"; "Need for 8: room .. at finish for all pending words"
pub data FinishGives (t : Told) (room : ℕ) : ℕ → Type 0 where
  eight : room < length (rest (speaker_of t) t.heard) → FinishGives t room 8
  done : length (rest (speaker_of t) t.heard) ≤ room → FinishGives t room 0
