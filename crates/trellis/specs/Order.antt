-- 01's order between the sequences for one list: the smaller sum; then the smaller last state, if equal the smaller state
-- before it, and so back to the first; then, in each symbol, the order of the candidates.
--   Each K ys p q   in each symbol p's candidate is before q's or is the same
--   Tie K ys p q    p is before q or is q, where their sums are equal
--   Le K ys p q     p is before q or is q
--   Antisym K       two candidates between the same two states, each before the other, are one
use Rattle.std.specs.Prelude.{◌≡◌, List, [], ◌∷◌, ℕ, ◌≤◌, ◌<◌}
use Rattle.trellis.specs.Lists.{LexLe}
use Rattle.trellis.specs.Code.{Code, Path, begin, step, states, cost}

module _ (K : Code) where
  open K use {Y, C, N, Branch, Cle}

  -- (the sequences allowed for one list are equally long: only the first and the last clause are ever met)
  abbrev pub Each : List Y → Path C → Path C → Type 0
  Each [] p q = Unit {0}
  Each (y ∷ ys) (begin s) q = Unit {0}
  Each (y ∷ ys) (step p c s) (begin t) = Unit {0}
  Each (y ∷ ys) (step p c s) (step q d t) = Cle y c d × Each ys p q

  pub record Tie (ys : List Y) (p q : Path C) : Type 0 where
    pub by-states : LexLe (states p) (states q)
    pub by-symbols : states p ≡ states q → Each ys p q

  pub record Le (ys : List Y) (p q : Path C) : Type 0 where
    pub by-sum : cost K ys p ≤ cost K ys q
    pub by_tie : cost K ys p ≡ cost K ys q → Tie ys p q

  abbrev pub Antisym : Type 0
  Antisym = (y : Y) (s t : ℕ) (c d : C) → s < N → t < N → Branch s t c → Branch s t d → Cle y c d → Cle y d c → c ≡ d
