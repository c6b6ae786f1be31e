-- What a machine holds after any list, and why it is enough: a row of sums, and for each reached state the symbols of the best
-- sequence into it that are taken and not released. proofs/Invariant.antt has its four laws: it holds at the start; one symbol
-- keeps it; what one symbol releases is what has become common; the way into the best end finishes the answer.
--   Holds S ys sums way n    the sums are those after ys, n symbols are pending, and `way s` are those of the best sequence into s
--   Shares N live way n      the ways into all live states have the same n oldest symbols
--   Agreed N live way n k    k is the most that they share, of n
--   before S y sums s        the state before s on its best way, once y is heard
--   longer S y sums way s    the way into s, once y is heard: the one into the state before it, and the new symbol
use Rattle.std.specs.Prelude.{◌≡◌, Bool, List, [], ◌∷◌, ◌++◌, ℕ, ◌+◌, ◌≤◌, ◌<◌, T, length, take}
use Rattle.trellis.specs.Code.{Code, Path, symbols}
use Rattle.trellis.specs.Best.{Surv, Best}
use Rattle.trellis.specs.Search.{Search}
use Rattle.trellis.specs.Common.{common, reach}
use Rattle.trellis.specs.Cells.{cell, Off}

module _ {C : Type 0} where
  abbrev pub Shares : ℕ → (ℕ → Bool) → (ℕ → List C) → ℕ → Type 0
  Shares N live way n = (s t : ℕ) → s < N → t < N → T (live s) → T (live t) → take n (way s) ≡ take n (way t)

  pub record Agreed (N : ℕ) (live : ℕ → Bool) (way : ℕ → List C) (n k : ℕ) : Type 0 where
    pub few : k ≤ n
    pub shared : Shares N live way k
    pub most : (m : ℕ) → m ≤ n → Shares N live way m → m ≤ k

module _ {K : Code} (S : Search K) where
  open K use {Y, C}

  pub record Holds (ys : List Y) (sums : ℕ → Surv (Unit {0})) (way : ℕ → List C) (n : ℕ) : Type 0 where
    -- the sums are the true ones less this
    pub less : ℕ
    pub off : Off S ys less sums
    -- pending are the symbols taken and not released
    pub count : n + reach S ys ≡ length ys
    pub ways : (s : ℕ) (p : Path C) → Best K ys s p → symbols p ≡ common S ys ++ way s

  abbrev pub before : Y → (ℕ → Surv (Unit {0})) → ℕ → ℕ
  before y sums s = (cell S y sums s).prev

  abbrev pub longer : Y → (ℕ → Surv (Unit {0})) → (ℕ → List C) → ℕ → List C
  longer y sums way s = way (before y sums s) ++ ((cell S y sums s).symbol ∷ [])
