-- Quarter turns of what is heard and of what was sent, from 02, Wish 10: "turning every received point by the same number of quarter
-- turns".
--   times f k x           f, k times
--   spot_turned s          the spot s after a quarter turn clockwise
--   point_turned h         the received point h after it
--   two_turned tp y        both points of a received symbol, each turned by tp
--   turned_by k y          the received symbol y after k quarter turns
--   piece_turned k p       the piece p, each of its symbols after k quarter turns
--   coordinates_turned xs  coordinates, two to a point, each point after a quarter turn
--   start_turned k         the state from which the points of a sender go on after k quarter turns
use Rattle.std.specs.Prelude.{ℕ, zero, suc, ◌%◌, List, [], ◌∷◌, map, ℤ, neg_ℤ}
use Rattle.wei.specs.State.{state_of}
use Rattle.trellis.specs.Measure.{Two}
use Rattle.distance.specs.declared.Spot.{Spot}
use Rattle.nearest.specs.declared.Received.{Received}
use Rattle.nearest.specs.declared.Received.TheVariants.{Heard, Missing}
use Rattle.receiver_meaning.specs.Piece.{Piece}

abbrev pub times : {A : Type 0} → (A → A) → ℕ → A → A
times f zero x = x
times f (suc k) x = f (times f k x)

-- 01: "A quarter turn clockwise takes (x, y) to (y, -x)"
abbrev pub spot_turned : Spot → Spot
spot_turned s = record { x = s.y; y = neg_ℤ s.x }

-- a missing point (02, Wish 4) stays missing
abbrev pub point_turned : Received → Received
point_turned (Heard s) = Heard (spot_turned s)
point_turned Missing = Missing

abbrev pub two_turned : {P : Type 0} → (P → P) → Two P → Two P
two_turned tp y = record { first = tp y.first; second = tp y.second }

abbrev pub turned_by : ℕ → Two Received → Two Received
turned_by k y = times (two_turned point_turned) k y

abbrev pub piece_turned : ℕ → Piece → Piece
piece_turned k p = record { fits = p.fits; symbols = map (turned_by k) p.symbols }

abbrev pub coordinates_turned : List ℤ → List ℤ
coordinates_turned [] = []
coordinates_turned (x ∷ []) = x ∷ []
coordinates_turned (x ∷ y ∷ xs) = y ∷ neg_ℤ x ∷ coordinates_turned xs

-- "from a start state that may be another one": 0; after an odd number of turns 0 with W1 and W3 flipped
abbrev pub start_turned : ℕ → ℕ
start_turned k = state_of (k % 2) 0 (k % 2) 0
