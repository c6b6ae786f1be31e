-- The records of what a recorder writes, and records at the front of some bytes: 02, Wishes 2 and 4.
--   symbol_in m xs           the symbol with the mark m whose four coordinates are xs
--   spot_of h, mark_for y     the coordinates that a record has for a received point, and the mark that it has for a symbol
--   symbol_record y          THE RECORD OF A SYMBOL; symbol_space y how many bytes it has
--   word_entries ws          the records of some words
--   symbol_records y ws      those of a symbol that was taken and released the words ws; finish_records those of a finish
--   space_of rs              how many bytes some records need: 5 for each word, 1 for a finish (proofs/Fronts)
--   Fronted rs l o          o is l with the records rs in front, and all else unchanged
--   Small y                 16 bits hold its coordinates
use Rattle.std.specs.Prelude.{ℕ, ◌+◌, ◌*◌, ◌≤◌, ◌≡◌, cond, List, [], ◌∷◌, map, ◌++◌, eqb, ℤ, pos, nat_abs, get_or, length, drop}
use Rattle.trellis.specs.Measure.{Two}
use Rattle.distance.specs.declared.Spot.{Spot}
use Rattle.nearest.specs.declared.Received.{Received}
use Rattle.nearest.specs.declared.Received.TheVariants.{Heard, Missing}
use Rattle.receiver_meaning.specs.Piece.{marked_symbol}
use Rattle.records.specs.Values.{Entry, symbol_entry, marked_entry, word_entry, finish_entry, bytes_of}

abbrev pub symbol_in : ℕ → List ℤ → Two Received
symbol_in m xs = marked_symbol m (get_or xs 0 (pos 0)) (get_or xs 1 (pos 0)) (get_or xs 2 (pos 0)) (get_or xs 3 (pos 0))

-- "zeros for the missing"
abbrev pub spot_of : Received → Spot
spot_of (Heard s) = s
spot_of Missing = record { x = pos 0; y = pos 0 }

-- "1 first missing, 2 second, 3 both"
abbrev pub missed : Received → ℕ
missed (Heard s) = 0
missed Missing = 1

abbrev pub mark_for : Two Received → ℕ
mark_for y = missed y.first + 2 * missed y.second

-- "Kind 2, symbol taken: four signed 16-bit coordinates"; where a point is missing, "kind 5: one byte .., then the eight coordinate bytes"
abbrev pub record_with : ℕ → Spot → Spot → Entry
record_with m a b = cond (eqb m 0) (symbol_entry a.x a.y b.x b.y) (marked_entry m a.x a.y b.x b.y)

abbrev pub symbol_record : Two Received → Entry
symbol_record y = record_with (mark_for y) (spot_of y.first) (spot_of y.second)

abbrev pub space_of : List Entry → ℕ
space_of rs = length (bytes_of rs)

abbrev pub symbol_space : Two Received → ℕ
symbol_space y = space_of (symbol_record y ∷ [])

abbrev pub word_entries : List ℕ → List Entry
word_entries ws = map word_entry ws

-- "Words stand right after the symbol or finish that gave them"
abbrev pub symbol_records : Two Received → List ℕ → List Entry
symbol_records y ws = symbol_record y ∷ word_entries ws

abbrev pub finish_records : List ℕ → List Entry
finish_records ws = finish_entry ∷ word_entries ws

abbrev pub Fronted : List Entry → List ℕ → List ℕ → Type 0
Fronted rs l o = o ≡ bytes_of rs ++ drop (space_of rs) l

abbrev pub SmallSpot : Spot → Type 0
SmallSpot s = (nat_abs s.x ≤ 32768) × (nat_abs s.y ≤ 32768)

abbrev pub Small : Two Received → Type 0
Small y = SmallSpot (spot_of y.first) × SmallSpot (spot_of y.second)
