-- What the search answers: for each label the key of the nearest point, the smaller number of equals, by the distance of `distance`.
--   spot_at x y          a spot by its coordinates
--   from s w            the squared distance of the spot s from the A point number w
--   near_key u s         distance plus number of the nearest A point among the numbers below 2^u
--   near_keys u x y      that of each label, the received point turned back: from (x, y) to (-y, x)
use Rattle.std.specs.Prelude.{ℕ, ◌+◌, ◌-◌, ◌^◌, ℤ, neg_ℤ}
use Rattle.points.specs.Points.{a_point}
use Rattle.trellis.specs.Pick.{least}
use Rattle.distance.specs.declared.Spot.{Spot}
use Rattle.distance.specs.Distance.{distance}
use Rattle.round_columns.specs.declared.Keys.{Keys}

abbrev pub spot_at : ℤ → ℤ → Spot
spot_at x y = record { x = x; y = y }

abbrev pub from : Spot → ℕ → ℕ
from s w = distance s (a_point w)

unfoldable pub near_key : ℕ → Spot → ℕ
near_key u s = from s (least (from s) (2 ^ u - 1)) + least (from s) (2 ^ u - 1)

unfoldable pub near_keys : ℕ → ℤ → ℤ → Keys
near_keys u x y =
    record {
      a = near_key u (spot_at x y);
      c = near_key u (spot_at (neg_ℤ y) x);
      b = near_key u (spot_at (neg_ℤ x) (neg_ℤ y));
      d = near_key u (spot_at y (neg_ℤ x));
    }
