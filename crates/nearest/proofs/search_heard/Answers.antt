-- `search_heard`: what is found on the map of the accord, and what each distance counts for.
use Prim.Native.Nat.{ℕ}
use mathlib.Core.Path.{◌≡◌}
use mathlib.Core.List.{[], ◌∷◌}
use lib.ListN.{get_or}
use Rattle.points.specs.declared.Accord.{Accord}
use Rattle.trellis.specs.Measure.{counted}
use Rattle.trellis.specs.Pick.{near, gap_of}
use Rattle.distance.specs.declared.Spot.{Spot}
use Rattle.distance.specs.declared.Found.{Found}
use Rattle.distance.specs.Found.{found_by}
use Rattle.nearest.specs.declared.Received.TheVariants.{Heard}
use Rattle.nearest.specs.Line.{map_distance, line_distance}
use Rattle.nearest.specs.Found.{chart_of, nearest_of}
use Rattle.nearest.proofs.search_heard.Goals as goal

-- the row of counted distances beside what was found
laid : (k : Accord) (h : Spot) (f : Found) (a c b d : ℕ) → f ≡ found_by k.u (map_distance k.map k.u) h →
    a ≡ counted (get_or f.d 0 0) → c ≡ counted (get_or f.d 1 0) → b ≡ counted (get_or f.d 2 0) → d ≡ counted (get_or f.d 3 0) →
    record { w = f.w; d = f.d; counted = a ∷ c ∷ b ∷ d ∷ [] } ≡ nearest_of k (Heard h)
unfolding nearest_of found_by near gap_of line_distance
laid k h f a c b d e p q r s = rw (p, q, r, s, e)

pub search_on-f-requires : goal.search_on-f-requires
unfolding chart_of
search_on-f-requires c = (c.requires.0, c.requires.1, c.requires.2)

pub returns : goal.returns
returns c =
    laid c.args.k c.args.h c.search_on-f.result _ _ _ _ c.search_on-f.ensures
    c.counted_of.ensures
    c.counted_of-2.ensures
    c.counted_of-3.ensures
    c.counted_of-4.ensures
