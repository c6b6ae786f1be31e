-- A piece as the code is lent it: its coordinates, and its marks where it has any.
--   is_marked m     there are marks
--   marks_in m      the marks; none where there are none
--   piece_by m xs   the piece of the coordinates xs, with these marks or without
use Rattle.std.specs.Prelude.{ℕ, Bool, true, false, List, [], ℤ, Option, Some, None}
use Rattle.std.specs.Borrow.{Bor}
use Rattle.receiver_meaning.specs.Piece.{Piece, piece_with}

abbrev pub is_marked : Option (Bor (List ℕ)) → Bool
is_marked None = false
is_marked (Some m) = true

abbrev pub marks_in : Option (Bor (List ℕ)) → List ℕ
marks_in None = []
marks_in (Some m) = m.now

abbrev pub piece_by : Option (Bor (List ℕ)) → List ℤ → Piece
piece_by m = piece_with (is_marked m) (marks_in m)
