-- A symbol of a piece, as it stands in the coordinates, and what is said of it before it is heard.
--   symbol_in m xs i   the symbol with the mark m whose four coordinates stand from the place i on
--   place_below n p    the place p, where it is one of the first n; else there is none
--   Looks y r         r has the points of the symbol y and the place of its first fault
use Rattle.std.specs.Prelude.{ℕ, ◌+◌, ◌≡◌, cond, ltb, List, ℤ, pos, get_or, Option, Some, None}
use Rattle.trellis.specs.Measure.{Two}
use Rattle.nearest.specs.declared.Received.{Received}
use Rattle.nearest.specs.Found.{heard_as}
use Rattle.receiver_meaning.specs.Told.{fault_of}
use Rattle.receiver_meaning.specs.Piece.{marked_symbol}
use Rattle.piece_input.specs.declared.Looked.{Looked}

abbrev pub symbol_in : ℕ → List ℤ → ℕ → Two Received
symbol_in m xs i = marked_symbol m (get_or xs i (pos 0)) (get_or xs (i + 1) (pos 0)) (get_or xs (i + 2) (pos 0)) (get_or xs (i + 3) (pos 0))

-- `fault_of` says 4 where there is no fault, `fault_at` 2
abbrev pub place_below : ℕ → ℕ → Option ℕ
place_below n p = cond (ltb p n) (Some p) None

pub record Looks (y : Two Received) (r : Looked) : Type 0 where
  pub points : heard_as r.first r.second ≡ y
  pub place : r.place ≡ place_below 4 (fault_of y)
