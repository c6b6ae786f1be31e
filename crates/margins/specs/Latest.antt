-- How long a word can be pending on a line with noise, at most: the bound that proofs/NoSix proves, as a number that can be computed.
--   crowded_at m u, crowded k   beside every point in use there is one of each other label
--   leaving c n        what it costs at most to leave the sent sequence for another state, three times, where each coordinate is at most n off
--   begun b            how far apart two sequences may begin: not at all with a named start
--   latest_of c b n     so many symbols are pending at most; c says whether the line is crowded
--   latest k b n       on a line of the accord k
-- Costs are squares of line units, here in units of 512.
use Rattle.std.specs.Prelude.{Bool, true, false, [], ◌∷◌, ℕ, ◌+◌, ◌-◌, ◌*◌, ◌/◌, get_or}
use Rattle.points.specs.declared.Accord.{Accord}
use Rattle.points.specs.declared.Map.{Map}
use Rattle.points.specs.declared.Map.TheVariants.{Round, Square}
use Rattle.trellis.specs.Measure as measure
use Rattle.openings.specs.declared.Start.{Start}
use Rattle.openings.specs.Given.{start_of}

-- one step of 2 away in x, in y or in both: on the square map at every width, on the round map at all but 1, 4 and 5, where the last points
-- of a label stand apart
abbrev pub crowded_at : Map → ℕ → Bool
crowded_at Round u = get_or (true ∷ false ∷ true ∷ true ∷ false ∷ false ∷ true ∷ true ∷ true ∷ []) u false
crowded_at Square u = true

abbrev pub crowded : Accord → Bool
crowded k = crowded_at k.map k.u

-- any state is reached in two symbols. A symbol of any subset has points of which two coordinates at most are a step further: (256 + n)² - n² = 512 (128
-- + n) each. Where a label can be missing nearby, one of its points counts for the cap, which is 512 · 512, and the other is one step further
abbrev pub leaving : Bool → ℕ → ℕ
leaving true n = 3 * 2 * (2 * (128 + n))
leaving false n = 3 * 2 * (512 + (128 + n))

-- "With a free start any first state may stand": in thirds of a coordinate
abbrev pub begun : measure.Start → ℕ
begun measure.free = 6
begun (measure.named s) = 0

-- a coordinate that differs from the sent one costs (256 - n)² - n² = 512 (128 - n) more at least; while the states of two sequences differ, one
-- coordinate in three symbols must, but for what was saved where they began and where they end
abbrev pub latest_of : Bool → measure.Start → ℕ → ℕ
latest_of c b n = leaving c n / (128 - n) + begun b - 4

abbrev pub latest : Accord → Start → ℕ → ℕ
latest k b n = latest_of (crowded k) (start_of b) n
