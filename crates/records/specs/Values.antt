-- What the bytes of a body say, and the records that say something: 02, Wishes 2, 4 and 11. Decoding and encoding stand side by side; that they
-- undo each other is proofs/Back.
--   Entry               a record: its kind and its body
--   width_of, window_of, start_of   of an open: "u, window, start (0 to 15, 16 for free), 3 bytes"
--   map_in k, accord_of k b   of an open of kind k: its map, and what both ends agree on; open_kind: the kind that opens a map's line
--   coordinate_of lo hi  "signed 16-bit coordinates, low byte first"; coordinates_of k b the four of a symbol, mark_in k b its mark
--   byte_fits k m i b    whether b may be the byte i of a body of kind k whose first byte is m; body_fits k body: all of its bytes
--   number_of a b c d    "4 bytes, low byte first"; word_of the one of a word
--   open_entry, symbol_entry, marked_entry, word_entry, finish_entry   the record that says this
--   bytes_of rs          the bytes of some records
use Rattle.std.specs.Prelude.{ℕ, suc, ◌+◌, ◌-◌, ◌*◌, ◌/◌, ◌%◌, Bool, true, cond, ◌&&◌, List, [], ◌∷◌, ◌++◌, eqb, ltb, leb, ℤ, pos, negsuc, get_or}
use Rattle.points.specs.declared.Map.{Map}
use Rattle.points.specs.declared.Map.TheVariants.{Round, Square}
use Rattle.points.specs.declared.Accord.{Accord}

pub record Entry : Type 0 where
  pub kind : ℕ
  pub body : List ℕ

abbrev pub entry : ℕ → List ℕ → Entry
entry k b = record { kind = k; body = b }

-- ---- what a body says

abbrev pub width_of : List ℕ → ℕ
width_of b = get_or b 0 0

abbrev pub window_of : List ℕ → ℕ
window_of b = get_or b 1 0

abbrev pub start_of : List ℕ → ℕ
start_of b = get_or b 2 0

-- "A capture with this map opens with kind 6"
abbrev pub map_in : ℕ → Map
map_in k = cond (eqb k 6) Square Round

abbrev pub accord_of : ℕ → List ℕ → Accord
accord_of k b = record { map = map_in k; u = width_of b }

-- two's complement: from 32768 on a number stands for itself less 65536
unfoldable pub coordinate_of : ℕ → ℕ → ℤ
coordinate_of lo hi = cond (ltb (lo + 256 * hi) 32768) (pos (lo + 256 * hi)) (negsuc (65536 - suc (lo + 256 * hi)))

-- the four from the place i on
abbrev pub coordinates_from : ℕ → List ℕ → List ℤ
coordinates_from i b =
    coordinate_of (get_or b i 0) (get_or b (i + 1) 0) ∷ coordinate_of (get_or b (i + 2) 0) (get_or b (i + 3) 0) ∷ coordinate_of (get_or b (i + 4) 0) (get_or b (i + 5) 0)
    ∷ coordinate_of (get_or b (i + 6) 0) (get_or b (i + 7) 0) ∷ []

-- kind 2 has nothing before its coordinates; "kind 5: one byte (1 first missing, 2 second, 3 both), then the eight coordinate bytes"
abbrev pub lead_of : ℕ → ℕ
lead_of k = cond (eqb k 5) 1 0

abbrev pub coordinates_of : ℕ → List ℕ → List ℤ
coordinates_of k b = coordinates_from (lead_of k) b

abbrev pub mark_in : ℕ → List ℕ → ℕ
mark_in k b = cond (eqb k 5) (get_or b 0 0) 0

unfoldable pub number_of : ℕ → ℕ → ℕ → ℕ → ℕ
number_of a b c d = a + 256 * b + 65536 * c + 16777216 * d

abbrev pub word_of : List ℕ → ℕ
word_of b = number_of (get_or b 0 0) (get_or b 1 0) (get_or b 2 0) (get_or b 3 0)

-- ---- what kind 5 asks of its bytes

-- the byte i of such a body is one of a point that the mark m calls missing
abbrev pub misses : ℕ → ℕ → Bool
misses m i = cond (ltb i 5) (eqb (m % 2) 1) (leb 2 m)

-- "one byte (1 first missing, 2 second, 3 both), then the eight coordinate bytes with zeros for the missing"
unfoldable pub byte_fits : ℕ → ℕ → ℕ → ℕ → Bool
byte_fits k m i b = cond (eqb k 5) (cond (eqb i 0) (leb 1 b && leb b 3) (cond (misses m i) (eqb b 0) true)) true

unfoldable pub fits_from : ℕ → ℕ → ℕ → List ℕ → Bool
fits_from k m i [] = true
fits_from k m i (b ∷ bs) = byte_fits k m i b && fits_from k m (suc i) bs

abbrev pub body_fits : ℕ → List ℕ → Bool
body_fits k body = fits_from k (get_or body 0 0) 0 body

-- ---- records that say something

-- the number of 16 bits that stands for a coordinate
unfoldable pub half_of : ℤ → ℕ
half_of (pos n) = n % 65536
half_of (negsuc n) = 65535 - n % 65536

abbrev pub half_bytes : ℤ → List ℕ → List ℕ
half_bytes z rest = (half_of z % 256) ∷ (half_of z / 256) ∷ rest

abbrev pub open_kind : Map → ℕ
open_kind Round = 1
open_kind Square = 6

abbrev pub open_entry : Accord → ℕ → ℕ → Entry
open_entry k window start = entry (open_kind k.map) (k.u ∷ window ∷ start ∷ [])

abbrev pub symbol_entry : ℤ → ℤ → ℤ → ℤ → Entry
symbol_entry a b c d = entry 2 (half_bytes a (half_bytes b (half_bytes c (half_bytes d []))))

abbrev pub marked_entry : ℕ → ℤ → ℤ → ℤ → ℤ → Entry
marked_entry m a b c d = entry 5 (m ∷ half_bytes a (half_bytes b (half_bytes c (half_bytes d []))))

abbrev pub word_entry : ℕ → Entry
word_entry w = entry 3 ((w % 256) ∷ (w / 256 % 256) ∷ (w / 65536 % 256) ∷ (w / 16777216) ∷ [])

abbrev pub finish_entry : Entry
finish_entry = entry 4 []

unfoldable pub bytes_of : List Entry → List ℕ
bytes_of [] = []
bytes_of (r ∷ rs) = r.kind ∷ (r.body ++ bytes_of rs)
