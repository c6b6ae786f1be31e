-- What the check of a card promises, for whatever was handed over.
--   card_of xs ss cs ns   a card of four lists
--   card_in c             the same of the card that the code lends from call to call
--   Checks k c r         the answer r, accepted or not
use Rattle.std.specs.Prelude.{◌≡◌, Bool, true, List, ℕ, ℤ}
use Rattle.points.specs.declared.Accord.{Accord}
use Rattle.card.specs.declared.Card as lent
use Rattle.card.specs.Card.{Card, Whole, Nearest, TrueSums}
use Rattle.card.specs.Check.{accepts}

abbrev pub card_of : List ℤ → List ℕ → List ℕ → List ℕ → Card
card_of xs ss cs ns = record { coordinates = xs; states = ss; symbols = cs; numbers = ns }

abbrev pub card_in : lent.Card → Card
card_in c = card_of c.coordinates.now c.states.now c.symbols.now c.numbers.now

pub record Checks (k : Accord) (c : Card) (r : Bool) : Type 0 where
  -- it is settled by what was handed over
  pub always : r ≡ accepts k c
  -- "accepts only if the sequence is allowed and none has a smaller sum, whatever the card sent"
  pub whole : r ≡ true → Whole k c
  pub nearest : r ≡ true → Nearest k c
  -- "If its numbers are the true least sums, and the sequence is allowed and nearest, it must be accepted. Ties may fall any way"
  pub complete : Whole k c → TrueSums k c → Nearest k c → r ≡ true
