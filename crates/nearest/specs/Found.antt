-- What is found for a received point and for a received symbol, as rows by label and by subset. Which number is nearest and which
-- symbol is best is said by the theory alone (`near`, `gap_of`, `type_sum`, `best_i3`): here it is only laid out.
--   heard_as g h       the received symbol of two received points
--   chart_of k         what a search on a line of the accord k needs
--   nearest_of k h     for each label the nearest number below 2^u, its true distance and what that counts for
--   nearest_to k s     the same of a point that was heard at the spot s
--   cost_of k y        what the best symbol of a subset counts for
--   weighed_of k y     for each subset that cost and the chosen I3'; for each label the nearest numbers
--   picked_from        the symbol of a subset, read off the rows of I3' and of the numbers
use Rattle.std.specs.Prelude.{ℕ, List, get_or}
use Rattle.points.specs.declared.Accord.{Accord}
use Rattle.round_places.specs.Places.{listed}
use Rattle.wei.specs.Label.{turn_of, second_label}
use Rattle.wei.specs.State.{subset_of}
use Rattle.wei.specs.Symbol.{Symbol}
use Rattle.trellis.specs.Measure.{Two, counted}
use Rattle.trellis.specs.Pick.{near, gap_of, type_sum, best_i3}
use Rattle.subset_types.specs.Types.{eight}
use Rattle.distance.specs.declared.Spot.{Spot}
use Rattle.distance.specs.Found.{four}
use Rattle.nearest.specs.declared.Received.{Received}
use Rattle.nearest.specs.declared.Received.TheVariants.{Heard}
use Rattle.nearest.specs.declared.Nearest.{Nearest}
use Rattle.nearest.specs.declared.Weighed.{Weighed}
use Rattle.nearest.specs.Line.{line_distance}

abbrev pub heard_as : Received → Received → Two Received
heard_as g h = record { first = g; second = h }

-- what a search needs, made once and lent to every search: the A points, by place
unfoldable pub chart_of : Accord → List ℕ
chart_of k = listed

unfoldable pub nearest_of : Accord → Received → Nearest
nearest_of k h =
    record {
      w = four (near k.u (line_distance k) h);
      d = four (gap_of k.u (line_distance k) h);
      counted = four (λ l. counted (gap_of k.u (line_distance k) h l));
    }

abbrev pub nearest_to : Accord → Spot → Nearest
nearest_to k s = nearest_of k (Heard s)

unfoldable pub cost_of : Accord → Two Received → ℕ → ℕ → ℕ → ℕ
cost_of k y y0 i1 i2 = type_sum k.u (line_distance k) counted y y0 i1 i2 (best_i3 k.u (line_distance k) counted y y0 i1 i2)

unfoldable pub weighed_of : Accord → Two Received → Weighed
weighed_of k y =
    record {
      costs = eight (cost_of k y);
      i3 = eight (best_i3 k.u (line_distance k) counted y);
      w1 = four (near k.u (line_distance k) y.first);
      w2 = four (near k.u (line_distance k) y.second);
    }

-- of i3, w1 and w2 of `Weighed`, and of Y0, I1 and I2'
unfoldable pub picked_from : List ℕ → List ℕ → List ℕ → ℕ → ℕ → ℕ → Symbol
picked_from i3s w1s w2s y0 i1 i2 =
    let i3 = get_or i3s (subset_of y0 i1 i2) 0 in
    record { y0 = y0; i1 = i1; i2 = i2; i3 = i3; w1 = get_or w1s (turn_of i2 i3) 0; w2 = get_or w2s (second_label (turn_of i2 i3) y0 i1) 0 }
