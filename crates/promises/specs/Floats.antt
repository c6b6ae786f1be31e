-- Floats that the library converts and a receiver then hears: 01, "A front end gives each 2D sample as a pair of f32"; 02, Wish 4, "A sample is
-- either heard, with its two floats, or missing". This says what a receiver is told by samples, with no coordinates in between.
--   NotRefused s      the sample is missing, or neither of its floats is refused
--   point_heard s      the received point of a sample; symbols_heard: two samples to a symbol
--   symbol_marks ms    the marks of symbols, from the marks of their samples, each 1 where the sample is missing
use Rattle.std.specs.Prelude.{ℕ, ◌+◌, ◌*◌, ◌≡◌, cond, List, [], ◌∷◌}
use Rattle.trellis.specs.Measure.{Two}
use Rattle.nearest.specs.declared.Received.{Received}
use Rattle.nearest.specs.declared.Received.TheVariants.{Heard, Missing}
use Rattle.samples.specs.declared.Sampled.{Sampled}
use Rattle.samples.specs.Sampled.{heard_sampled}

abbrev pub NotRefused : Sampled → Type 0
NotRefused s = (heard_sampled s).given.number ≡ 0

abbrev pub point_heard : Sampled → Received
point_heard s = let g = heard_sampled s in cond g.missing Missing (Heard (record { x = g.given.x; y = g.given.y }))

-- "A received symbol is four coordinates: x, y of the first point, x, y of the second"; "A symbol may miss either point or both"
abbrev pub symbols_heard : List Sampled → List (Two Received)
symbols_heard (s ∷ t ∷ l) = record { first = point_heard s; second = point_heard t } ∷ symbols_heard l
symbols_heard (s ∷ []) = []
symbols_heard [] = []

-- "1 first missing, 2 second, 3 both"
abbrev pub symbol_marks : List ℕ → List ℕ
symbol_marks (a ∷ b ∷ ms) = (a + 2 * b) ∷ symbol_marks ms
symbol_marks (a ∷ []) = []
symbol_marks [] = []
