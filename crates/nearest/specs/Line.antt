-- What is received, and how far it is from a point, from 01, "What the receiver hears".
--   is_coordinate z       z is a received coordinate
--   InRange h            the received point h is missing, or was heard in range
--   BothInRange y        both points of the received symbol y are in range
--   map_distance n u s    the squared distance of the spot s from the point with a label and a number, on the map n at the width u
--   line_distance k h     the same of the received point h on a line of the accord k: 0 where h is missing
--   line_measure k        the measure on a line of the accord k: what is heard is two received points, their distances are counted
--   line_choice k         the symbol of each subset that it puts first
use Rattle.std.specs.Prelude.{ℕ, Bool, leb, ℤ, nat_abs}
use Rattle.points.specs.declared.Map.{Map}
use Rattle.points.specs.declared.Accord.{Accord}
use Rattle.wei.specs.Symbol.{Symbol}
use Rattle.trellis.specs.Measure.{Measure, Two, counted, pairs}
use Rattle.trellis.specs.Pick.{best_of}
use Rattle.maps.specs.PointMap.{point_on}
use Rattle.distance.specs.declared.Spot.{Spot}
use Rattle.distance.specs.Distance.{SpotInRange, distance}
use Rattle.nearest.specs.declared.Received.{Received}
use Rattle.nearest.specs.declared.Received.TheVariants.{Heard, Missing}

-- "A received coordinate is a whole number from -8192 to 8192, both included"
abbrev pub is_coordinate : ℤ → Bool
is_coordinate z = leb (nat_abs z) 8192

-- "a missing point is never a 5" (02, Wish 4)
abbrev pub InRange : Received → Type 0
InRange (Heard s) = SpotInRange s
InRange Missing = Unit {0}

pub record BothInRange (y : Two Received) : Type 0 where
  pub first-in : InRange y.first
  pub second-in : InRange y.second

abbrev pub map_distance : Map → ℕ → Spot → ℕ → ℕ → ℕ
map_distance n u s l w = distance s (point_on n u l w)

-- "A missing point adds 0 to every distance" (02, Wish 4)
unfoldable pub line_distance : Accord → Received → ℕ → ℕ → ℕ
line_distance k (Heard s) l w = map_distance k.map k.u s l w
line_distance k Missing l w = 0

-- "A received symbol is four coordinates: x, y of the first point, x, y of the second"; "least sum of counted distances" (02, Wish 8)
abbrev pub line_measure : Accord → Measure
line_measure k = pairs Received (line_distance k) counted

-- the symbol of each subset that this measure puts first, found
abbrev pub line_choice : Accord → Two Received → ℕ → ℕ → ℕ → Symbol
line_choice k = best_of k.u (line_distance k) counted
