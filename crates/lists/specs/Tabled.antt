-- A list by its places.
--   tabled f n    f at the numbers below n
use Rattle.std.specs.Prelude.{ℕ, zero, suc, List, [], ◌∷◌, ◌++◌}

unfoldable pub tabled : (ℕ → ℕ) → ℕ → List ℕ
tabled f zero = []
tabled f (suc n) = tabled f n ++ (f n ∷ [])
