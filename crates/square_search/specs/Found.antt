-- How far a spot is from the points of the square map.
--   apart r c                the squared difference of r from the point coordinate c
--   square_distance u h l w   the squared distance of the spot h from the point with label l and number w
use Rattle.std.specs.Prelude.{ℕ, ℤ}
use Rattle.maps.specs.SquareMap.{square_of}
use Rattle.distance.specs.declared.Spot.{Spot}
use Rattle.distance.specs.Distance.{difference, square, distance}

abbrev pub apart : ℤ → ℤ → ℕ
apart r c = square (difference r c)

unfoldable pub square_distance : ℕ → Spot → ℕ → ℕ → ℕ
square_distance u h l w = distance h (square_of u l w)
