-- What a search finds, as rows by label. Which number is nearest is said by the theory alone (`near`, `gap_of`): here it is only laid out.
--   four f           f at the labels 0 to 3
--   found_by u d s    for each label the nearest number below 2^u to the spot s, by the distance d, and that distance
use Rattle.std.specs.Prelude.{ℕ, List, [], ◌∷◌}
use Rattle.trellis.specs.Pick.{near, gap_of}
use Rattle.distance.specs.declared.Spot.{Spot}
use Rattle.distance.specs.declared.Found.{Found}

abbrev pub four : (ℕ → ℕ) → List ℕ
four f = f 0 ∷ f 1 ∷ f 2 ∷ f 3 ∷ []

unfoldable pub found_by : ℕ → (Spot → ℕ → ℕ → ℕ) → Spot → Found
found_by u d s = record { w = four (near u d s); d = four (gap_of u d s) }
