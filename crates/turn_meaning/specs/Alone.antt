-- The condition of 02, Wish 10: "if no second symbol sequence has an equally small sum". It speaks of symbols: two allowed sequences may
-- run through other states and have the same symbols.
--   IsNearest K ys p   p is allowed for the received ys, and no allowed sequence has a smaller sum
--   Alone K ys         no second symbol sequence has an equally small sum
use Rattle.std.specs.Prelude.{◌≡◌, List, ◌≤◌}
use Rattle.trellis.specs.Code.{Code, Path, symbols, Allowed, cost}

module _ (K : Code) where
  open K use {Y, C}

  pub record IsNearest (ys : List Y) (p : Path C) : Type 0 where
    pub allowed : Allowed K ys p
    pub least : (q : Path C) → Allowed K ys q → cost K ys p ≤ cost K ys q

  abbrev pub Alone : List Y → Type 0
  Alone ys = (p q : Path C) → IsNearest ys p → IsNearest ys q → symbols p ≡ symbols q
