-- What is kept of a symbol beside its subset: what was picked for each subset and label. 72 words: first a register for each subset, whose
-- bit q is I3' of the best symbol of that subset, q symbols before the newest; then a ring of 64 slots, a word to a slot, whose eight
-- bytes are the numbers of the nearest points by label, of the first point and then of the second.
--   byte_at n i              byte i of a word
--   numbers_of w1 w2         the numbers of both points, by label, as one word
--   type_at picks k q        I3' of subset k, q before the newest
--   numbers_at picks i       the word of slot i
--   symbol_by u i3 n k       the symbol of subset k with that I3', and the numbers of its labels in the word n. They are reduced to u
--                           bits, so that a symbol can be sent whatever the words hold
--   symbol_in u picks i q k  the symbol of subset k in slot i, q before the newest
--   kept_in picks i i3 n     the words after a symbol: each register one bit longer, and n in slot i
--   said_of u q c            the word of the symbol c after the turn q, and the turn after it
use Rattle.std.specs.Prelude.{ℕ, ◌+◌, ◌*◌, ◌/◌, ◌%◌, ◌^◌, List, ◌++◌, get_or, set, drop}
use Rattle.lists.specs.Tabled.{tabled}
use Rattle.registers.specs.Registers.{bit_at}
use Rattle.wei.specs.Label.{turn_of, second_label}
use Rattle.wei.specs.Symbol.{Symbol}
use Rattle.trellis.specs.Words.{word, turn_after}
use Rattle.picks.specs.declared.Said.{Said}

abbrev pub byte_at : ℕ → ℕ → ℕ
byte_at n i = n / 2 ^ (8 * i) % 256

abbrev pub four_of : List ℕ → ℕ
four_of l = get_or l 0 0 + get_or l 1 0 * 2 ^ 8 + get_or l 2 0 * 2 ^ 16 + get_or l 3 0 * 2 ^ 24

unfoldable pub numbers_of : List ℕ → List ℕ → ℕ
numbers_of w1 w2 = four_of w1 + four_of w2 * 2 ^ 32

-- ---- one symbol

unfoldable pub symbol_by : ℕ → ℕ → ℕ → ℕ → Symbol
symbol_by u i3 n k =
    let q = turn_of (k % 2) i3 in
    record {
      y0 = k / 4 % 2;
      i1 = k / 2 % 2;
      i2 = k % 2;
      i3 = i3;
      w1 = byte_at n q % 2 ^ u;
      w2 = byte_at n (4 + second_label q (k / 4 % 2) (k / 2 % 2)) % 2 ^ u;
    }

abbrev pub said_of : ℕ → ℕ → Symbol → Said
said_of u q c = record { word = word u q c; turn = turn_after q c }

-- ---- 72 words

abbrev pub type_at : List ℕ → ℕ → ℕ → ℕ
type_at picks k q = bit_at (get_or picks k 0) q

abbrev pub numbers_at : List ℕ → ℕ → ℕ
numbers_at picks i = get_or picks (8 + i) 0

abbrev pub symbol_in : ℕ → List ℕ → ℕ → ℕ → ℕ → Symbol
symbol_in u picks i q k = symbol_by u (type_at picks k q) (numbers_at picks i) k

-- a register with b as its newest bit; the oldest is forgotten
abbrev pub longer : ℕ → ℕ → ℕ
longer r b = r % 2 ^ 63 * 2 + b

-- register k after a symbol
abbrev pub longer_at : List ℕ → List ℕ → ℕ → ℕ
longer_at picks i3 k = longer (get_or picks k 0) (get_or i3 k 0 % 2)

unfoldable pub kept_in : List ℕ → ℕ → List ℕ → ℕ → List ℕ
kept_in picks i i3 n = set (tabled (longer_at picks i3) 8 ++ drop 8 picks) (8 + i) n
