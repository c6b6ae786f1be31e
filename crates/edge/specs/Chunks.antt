-- What a reader gave, chunk after chunk.
--   joined bs    the bytes of the chunks, one after another
use Rattle.std.specs.Borrow.{Bor}
use Rattle.std.specs.Prelude.{ℕ, List, [], ◌∷◌, ◌++◌}

abbrev pub joined : List (Bor (List ℕ)) → List ℕ
joined [] = []
joined (b ∷ bs) = b.now ++ joined bs
