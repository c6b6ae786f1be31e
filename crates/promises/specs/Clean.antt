-- A clean line between the two ends: every point that the sender wrote is heard where it stands. Lists are in the order of time.
--   all_on_line ps          the same of all coordinates that a sender wrote
--   heard_exactly k c      the received symbol at the two points of the symbol c, on a line of the accord k
--   cleanly k sent        what is heard, on a clean line of the accord k, of a fresh sender that accepted the words `sent`
--   floats_heard ps        what the front end gives for the coordinates ps, two to a sample, each as an f32
--   samples_at ps          samples, none refused, at the coordinates ps
--   StartsAtZero b        the state 0, in which a sender starts, may stand first: the start is free or names 0
use Rattle.std.specs.Prelude.{ℕ, List, [], ◌∷◌, map, T, ℤ}
use Rattle.std.specs.Float.{binary32}
use Rattle.std.specs.Float.Ieee.{of_int}
use Rattle.points.specs.declared.Accord.{Accord}
use Rattle.samples.specs.Given.{GivenSample, both_done}
use Rattle.samples.specs.Heard.{heard_sample}
use Rattle.wei.specs.Symbol.{Symbol, symbols_from}
use Rattle.points.specs.declared.Point.{Point}
use Rattle.maps.specs.PointMap.{first_at, second_at}
use Rattle.trellis.specs.Measure.{Two, may_start}
use Rattle.distance.specs.declared.Spot.{Spot}
use Rattle.distance.specs.Distance.{on_line}
use Rattle.nearest.specs.declared.Received.{Received}
use Rattle.nearest.specs.declared.Received.TheVariants.{Heard}
use Rattle.openings.specs.declared.Start.{Start}
use Rattle.openings.specs.Given.{start_of}

abbrev pub all_on_line : List ℤ → List ℤ
all_on_line ps = map on_line ps

abbrev pub spot_at : Point → Spot
spot_at p = record { x = on_line p.x; y = on_line p.y }

abbrev pub heard_at : Point → Received
heard_at p = Heard (spot_at p)

abbrev pub heard_exactly : Accord → Symbol → Two Received
heard_exactly k c = record { first = heard_at (first_at k c); second = heard_at (second_at k c) }

-- "The sender starts in state 0"; "q starts at 0"
abbrev pub cleanly : Accord → List ℕ → List (Two Received)
cleanly k sent = map (heard_exactly k) (symbols_from k.u 0 0 sent)

abbrev pub StartsAtZero : Start → Type 0
StartsAtZero b = T (may_start (start_of b) 0)

-- "A front end gives each 2D sample as a pair of f32"
abbrev pub floats_heard : List ℤ → List GivenSample
floats_heard (x ∷ y ∷ ps) = heard_sample (of_int binary32 x) (of_int binary32 y) ∷ floats_heard ps
floats_heard (x ∷ []) = []
floats_heard [] = []

abbrev pub samples_at : List ℤ → List GivenSample
samples_at (x ∷ y ∷ ps) = both_done x y ∷ samples_at ps
samples_at (x ∷ []) = []
samples_at [] = []
