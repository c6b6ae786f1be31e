-- A bound on every number of a list, as a test.
--   all_up_to m l   no number of l is above m
use Rattle.std.specs.Prelude.{ℕ, Bool, true, ◌&&◌, List, [], ◌∷◌, leb}

unfoldable pub all_up_to : ℕ → List ℕ → Bool
all_up_to m [] = true
all_up_to m (x ∷ l) = leb x m && all_up_to m l
