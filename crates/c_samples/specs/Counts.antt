-- What a call tells of how far it came: two counts and a place, in the first three places of a list that the caller lends.
--   told_of a b p told          `told` with its first three places written
use Rattle.std.specs.Prelude.{ℕ, List, ◌∷◌, drop}

unfoldable pub told_of : ℕ → ℕ → ℕ → List ℕ → List ℕ
told_of a b p told = a ∷ b ∷ p ∷ drop 3 told
