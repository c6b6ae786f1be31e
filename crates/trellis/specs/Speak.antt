-- Words from symbols, one for each, from left to right, with something carried along (for 01's words the turn before). Any
-- words that go so are final as soon as their symbols are.
--   speak say on b cs      the words of cs, where b is carried before them: `say` makes a word, `on` what is carried next
--   after on b cs          what is carried after cs
--   spoken S say on b ys   the words that are final after ys
--   carried S on b ys      what is carried after them
--   answered S say on b ys the words of the answer for ys
use Rattle.std.specs.Prelude.{List, [], ◌∷◌}
use Rattle.trellis.specs.Code.{Code, Path, symbols}
use Rattle.trellis.specs.Best.{Surv, absent, alive}
use Rattle.trellis.specs.Search.{Search, answer}
use Rattle.trellis.specs.Common.{common}

module _ {B C : Type 0} where
  unfoldable pub speak : {W : Type 0} → (B → C → W) → (B → C → B) → B → List C → List W
  speak say on b [] = []
  speak say on b (c ∷ cs) = say b c ∷ speak say on (on b c) cs

  unfoldable pub after : (B → C → B) → B → List C → B
  after on b [] = b
  after on b (c ∷ cs) = after on (on b c) cs

-- the symbols of what was found
abbrev pub symbols_in : {C : Type 0} → Surv (Path C) → List C
symbols_in absent = []
symbols_in (alive w p) = symbols p

module _ {K : Code} (S : Search K) {B : Type 0} where
  unfoldable pub spoken : {W : Type 0} → (B → K.C → W) → (B → K.C → B) → B → List K.Y → List W
  spoken say on b ys = speak say on b (common S ys)

  unfoldable pub carried : (B → K.C → B) → B → List K.Y → B
  carried on b ys = after on b (common S ys)

  unfoldable pub answered : {W : Type 0} → (B → K.C → W) → (B → K.C → B) → B → List K.Y → List W
  answered say on b ys = speak say on b (symbols_in (answer S ys))
