-- What a caller hands over to be heard: coordinates, four to a symbol, and perhaps a mark for each symbol, which says what of it is missing.
--   Piece               the symbols of a piece, and whether what was handed over makes whole symbols
--   point_from b x y     a received point: missing, or heard at x, y
--   marked_symbol m ..   a received symbol from its mark and its four coordinates: 0 both heard, 1 the first point missing, 2 the second, 3 both
--   symbols_with ms xs   the received symbols of a list of coordinates, with the marks ms; a mark that is not there is 0
--   piece_with b ms xs   the piece of a list of coordinates, with the marks ms or without; marked_piece, the first
--   symbol_from, symbols_of, piece_of   with no mark
use Rattle.std.specs.Prelude.{ℕ, ◌*◌, ◌%◌, Bool, true, false, cond, ◌&&◌, List, [], ◌∷◌, eqb, leb, ℤ, length}
use Rattle.lists.specs.UpTo.{all_up_to}
use Rattle.trellis.specs.Measure.{Two}
use Rattle.nearest.specs.declared.Received.{Received}
use Rattle.nearest.specs.declared.Received.TheVariants.{Heard, Missing}

pub record Piece : Type 0 where
  pub fits : Bool
  pub symbols : List (Two Received)

-- "A sample is either heard .. or missing" (02, Wish 4): what stands in the places of a missing point is not looked at
abbrev pub point_from : Bool → ℤ → ℤ → Received
point_from missing x y = cond missing Missing (Heard (record { x = x; y = y }))

-- "1 first missing, 2 second, 3 both" (02, Wish 4)
abbrev pub first_missing : ℕ → Bool
first_missing m = eqb (m % 2) 1

abbrev pub second_missing : ℕ → Bool
second_missing m = leb 2 m

-- "A received symbol is four coordinates: x, y of the first point, x, y of the second"
abbrev pub marked_symbol : ℕ → ℤ → ℤ → ℤ → ℤ → Two Received
marked_symbol m a b c d = record { first = point_from (first_missing m) a b; second = point_from (second_missing m) c d }

abbrev pub mark_of : List ℕ → ℕ
mark_of [] = 0
mark_of (m ∷ ms) = m

abbrev pub later_marks : List ℕ → List ℕ
later_marks [] = []
later_marks (m ∷ ms) = ms

abbrev pub symbols_with : List ℕ → List ℤ → List (Two Received)
symbols_with ms (a ∷ b ∷ c ∷ d ∷ xs) = marked_symbol (mark_of ms) a b c d ∷ symbols_with (later_marks ms) xs
symbols_with ms (a ∷ b ∷ c ∷ []) = []
symbols_with ms (a ∷ b ∷ []) = []
symbols_with ms (a ∷ []) = []
symbols_with ms [] = []

-- "10: piece length not a multiple of 4"; a piece with marks has one for each symbol, and each is one of the four, 0 to 3
abbrev pub fits_with : Bool → List ℕ → ℕ → Bool
fits_with marked ms n = cond marked (eqb n (4 * length ms) && all_up_to 3 ms) (eqb (n % 4) 0)

abbrev pub marks_of : Bool → List ℕ → List ℕ
marks_of marked ms = cond marked ms []

-- a piece, and whether it comes with the marks ms: if not, they are not looked at
abbrev pub piece_with : Bool → List ℕ → List ℤ → Piece
piece_with marked ms xs = record { fits = fits_with marked ms (length xs); symbols = symbols_with (marks_of marked ms) xs }

abbrev pub marked_piece : List ℕ → List ℤ → Piece
marked_piece = piece_with true

-- ---- with no mark

abbrev pub symbol_from : ℤ → ℤ → ℤ → ℤ → Two Received
symbol_from = marked_symbol 0

abbrev pub symbols_of : List ℤ → List (Two Received)
symbols_of = symbols_with []

abbrev pub piece_of : List ℤ → Piece
piece_of = piece_with false []
