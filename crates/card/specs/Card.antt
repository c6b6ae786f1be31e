-- What a signal card hands over, and what is claimed of it, from 02, Wish 14, over the allowed sequences of the theory and their sums.
-- A card's lists stand in the order of time. A sequence is built towards its newest symbol, so what was heard stands newest first.
--   Card                what a card was given, four coordinates a symbol, and what it handed over: a state more than symbols, six numbers
--                       a symbol, and sixteen numbers for the start and after each symbol
--   count_of c           how many symbols were heard
--   heard_in xs i        the i-th symbol of a list of coordinates; heard_at c i, of those that the card was given
--   state_at c i, symbol_at c i, number_at c i s   of what the card handed over the i-th state, the i-th symbol, and the number of the
--                       state s after i symbols
--   up_to f i            the first i, newest first; heard_to c i, of the symbols heard
--   sequence_to c i      the sequence that the card chose, up to the i-th symbol
--   line_code k          the code of a line of the accord k, with a free start
--   Whole k c           the lists are those of 1 to 64 symbols, there is such a line, and every coordinate is in range
--   Nearest k c         the card's sequence is allowed, and none has a smaller sum
--   LeastInto K ys s w  w is the least sum into the state s
--   TrueSums k c        the card's numbers are the least sums into each state
--   LikeOurs k c        the card of a decoder like ours: the answer of 01, with its ties, and the least sums
use Rattle.std.specs.Prelude.{◌≡◌, true, List, [], ◌∷◌, ℕ, zero, suc, ◌+◌, ◌*◌, ◌/◌, ◌≤◌, ◌<◌, ℤ, pos, length, get_or}
use Rattle.wei.specs.Symbol.{Symbol}
use Rattle.points.specs.declared.Accord.{Accord}
use Rattle.points.specs.Agreed.{is_accord}
use Rattle.trellis.specs.Code.{Code, Path, begin, step, last, Allowed, cost}
use Rattle.trellis.specs.Best.{Answer}
use Rattle.trellis.specs.Measure.{Two, free}
use Rattle.nearest.specs.declared.Received.{Received}
use Rattle.nearest.specs.Line.{BothInRange}
use Rattle.receiver_meaning.specs.Told.{code_of}
use Rattle.receiver_meaning.specs.Piece.{symbol_from}

pub record Card : Type 0 where
  pub coordinates : List ℤ
  pub states : List ℕ
  pub symbols : List ℕ
  pub numbers : List ℕ

abbrev pub count_of : Card → ℕ
count_of c = length c.coordinates / 4

-- "A received symbol is four coordinates: x, y of the first point, x, y of the second"
abbrev pub heard_in : List ℤ → ℕ → Two Received
heard_in xs i = symbol_from (get_or xs (4 * i) (pos 0)) (get_or xs (4 * i + 1) (pos 0)) (get_or xs (4 * i + 2) (pos 0)) (get_or xs (4 * i + 3) (pos 0))

abbrev pub heard_at : Card → ℕ → Two Received
heard_at c i = heard_in c.coordinates i

abbrev pub state_at : Card → ℕ → ℕ
state_at c i = get_or c.states i 0

-- Y0, I1, I2', I3', w1 and w2
abbrev pub symbol_at : Card → ℕ → Symbol
symbol_at c i =
    record {
      y0 = get_or c.symbols (6 * i) 0;
      i1 = get_or c.symbols (6 * i + 1) 0;
      i2 = get_or c.symbols (6 * i + 2) 0;
      i3 = get_or c.symbols (6 * i + 3) 0;
      w1 = get_or c.symbols (6 * i + 4) 0;
      w2 = get_or c.symbols (6 * i + 5) 0;
    }

-- "for the start and after each symbol, sixteen numbers"
abbrev pub number_at : Card → ℕ → ℕ → ℕ
number_at c i s = get_or c.numbers (16 * i + s) 0

abbrev pub up_to : {Y : Type 0} → (ℕ → Y) → ℕ → List Y
up_to f zero = []
up_to f (suc i) = f i ∷ up_to f i

abbrev pub heard_to : Card → ℕ → List (Two Received)
heard_to c i = up_to (heard_at c) i

abbrev pub sequence_to : Card → ℕ → Path Symbol
sequence_to c zero = begin (state_at c zero)
sequence_to c (suc i) = step (sequence_to c i) (symbol_at c i) (state_at c (suc i))

-- "It uses Wish 8's distances, works for both maps"; "a free start"
abbrev pub line_code : Accord → Code
line_code k = code_of k free

-- "a list of 1 to 64 symbols"; "Other list lengths, a width that is a 1 and a coordinate that is a 5 are never accepted"
pub record Whole (k : Accord) (c : Card) : Type 0 where
  pub agreed : is_accord k ≡ true
  pub some : 1 ≤ count_of c
  pub few : count_of c ≤ 64
  pub coordinates-long : length c.coordinates ≡ 4 * count_of c
  pub states-long : length c.states ≡ count_of c + 1
  pub symbols-long : length c.symbols ≡ 6 * count_of c
  pub numbers-long : length c.numbers ≡ 16 * (count_of c + 1)
  pub in-range : (i : ℕ) → i < count_of c → BothInRange (heard_at c i)

-- "the sequence is allowed and none has a smaller sum"
pub record Nearest (k : Accord) (c : Card) : Type 0 where
  pub allowed : Allowed (line_code k) (heard_to c (count_of c)) (sequence_to c (count_of c))
  pub least : (q : Path Symbol) → Allowed (line_code k) (heard_to c (count_of c)) q →
      cost (line_code k) (heard_to c (count_of c)) (sequence_to c (count_of c)) ≤ cost (line_code k) (heard_to c (count_of c)) q

-- some allowed sequence into s has this sum, and none has less
pub record LeastInto (K : Code) (ys : List K.Y) (s w : ℕ) : Type 0 where
  pub by : Path K.C
  pub allowed : Allowed K ys by
  pub ends : last by ≡ s
  pub sum : cost K ys by ≡ w
  pub least : (q : Path K.C) → Allowed K ys q → last q ≡ s → w ≤ cost K ys q

-- "its numbers are the true least sums": "into each state", "for the start and after each symbol"
abbrev pub TrueSums : Accord → Card → Type 0
TrueSums k c = (i s : ℕ) → i ≤ count_of c → s < 16 → LeastInto (line_code k) (heard_to c i) s (number_at c i s)

-- the answer that a receiver with a free start gives with its finish (`least`, promises/proofs/Demand2), ties by 01's order, and the true least sums
pub record LikeOurs (k : Accord) (c : Card) : Type 0 where
  pub whole : Whole k c
  pub answer : Answer (line_code k) (heard_to c (count_of c)) (sequence_to c (count_of c))
  pub sums : TrueSums k c
