-- Pairs of points on a line of any accord, round map or square: what 01 says of both points of a symbol, with no symbol named.
--   points_at k c             the two points of the symbol c on a line of the accord k
--   IsPointAt k p            p is a point of the map at its width; IsPairAt: both of a pair are
--   AllowsPointsAt k b ps    ps are the points of symbols that the start b allows
--   CommonPoints k b ys qs   every best sequence, into whatever state, begins with the pairs of points qs
--   LongestPoints k b ys qs  qs is the longest such beginning
use Rattle.std.specs.Prelude.{ℕ, ◌^◌, ◌≤◌, ◌<◌, ◌≡◌, length}
use mathlib.Core.List.{List, map, IsPrefix}
use Rattle.wei.specs.Symbol.{Symbol}
use Rattle.points.specs.declared.Accord.{Accord}
use Rattle.points.specs.declared.Point.{Point}
use Rattle.maps.specs.PointMap.{point_at, first_at, second_at}
use Rattle.trellis.specs.Code.{Path, symbols}
use Rattle.trellis.specs.Best.{Best}
use Rattle.trellis.specs.Measure.{Start, Two}
use Rattle.trellis.specs.Allowed.{Allows}
use Rattle.nearest.specs.declared.Received.{Received}
use Rattle.receiver_meaning.specs.Told.{code_of}

-- "One word makes one symbol: two 2D points"
abbrev pub points_at : Accord → Symbol → Two Point
points_at k c = record { first = first_at k c; second = second_at k c }

-- "Width u uses w below 2^u, so each label has 2^u points"
pub record IsPointAt (k : Accord) (p : Point) : Type 0 where
  pub label : ℕ
  pub number : ℕ
  pub label-below : label < 4
  pub number-below : number < 2 ^ k.u
  pub is : point_at k label number ≡ p

abbrev pub IsPairAt : Accord → Two Point → Type 0
IsPairAt k pq = IsPointAt k pq.first × IsPointAt k pq.second

pub record AllowsPointsAt (k : Accord) (b : Start) (ps : List (Two Point)) : Type 0 where
  pub symbols : List Symbol
  pub are : map (points_at k) symbols ≡ ps
  pub allowed : Allows k.u b symbols

-- "All symbols of the longest common beginning of these sequences, both points equal"
abbrev pub CommonPoints : Accord → Start → List (Two Received) → List (Two Point) → Type 0
CommonPoints k b ys qs = (s : ℕ) (p : Path Symbol) → Best (code_of k b) ys s p → IsPrefix qs (map (points_at k) (symbols p))

pub record LongestPoints (k : Accord) (b : Start) (ys : List (Two Received)) (qs : List (Two Point)) : Type 0 where
  pub common : CommonPoints k b ys qs
  pub longest : (ps : List (Two Point)) → CommonPoints k b ys ps → length ps ≤ length qs
