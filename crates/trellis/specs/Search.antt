-- How the best sequences are found: by the states before each state, one picked candidate for each branch, and the recursion
-- along the list. A reader of the theorems need believe nothing of it: proofs/Theorems.antt says that it finds what specs/Best
-- says, and only that, for every search that obeys `Laws`.
--   Sorted l           each number of l is below all that follow it
--   range a n          the n numbers from a on
--   Search K           predecessors, picked candidates, and whether two candidates are one
--   Laws S             what a search has to obey
--   first b s          before any symbol: s where it may stand first, else nothing
--   extend S y s t o   what was found at t with one more step, to s
--   surv S ys s        the best sequence into s with its sum, or nothing
--   answer S ys        the best over all states, or nothing
use Rattle.std.specs.Prelude.{◌≡◌, Bool, true, false, List, [], ◌∷◌, ℕ, zero, suc, ◌≤◌, ◌<◌}
use Rattle.trellis.specs.Lists.{In}
use Rattle.trellis.specs.Code.{Code, Path, begin, step}
use Rattle.trellis.specs.Order.{Antisym}
use Rattle.trellis.specs.Best.{Surv, absent, alive}
use Rattle.trellis.specs.Choose.{choose, map_s, raise}

abbrev pub Sorted : List ℕ → Type 0
Sorted [] = Unit {0}
Sorted (x ∷ xs) = ((t : ℕ) → In t xs → x < t) × Sorted xs

unfoldable pub range : ℕ → ℕ → List ℕ
range a zero = []
range a (suc n) = a ∷ range (suc a) n

pub record Search (K : Code) : Type 0 where
  -- the states that stand before a state, rising
  pub preds : ℕ → List ℕ
  -- pick y s t: the candidate from s to t that is nearest to y, the first of equals
  pub pick : K.Y → ℕ → ℕ → K.C
  -- whether two candidates are one
  pub same : (c d : K.C) → Dec (c ≡ d)

pub record Laws {K : Code} (S : Search K) : Type 0 where
  -- the code's own order settles ties
  pub antisym : Antisym K
  -- `preds` misses no branch, has states only, and rises
  pub preds-all : (s t : ℕ) (c : K.C) → s < K.N → t < K.N → K.Branch s t c → In s (S.preds t)
  pub preds-below : (s t : ℕ) → t < K.N → In s (S.preds t) → s < K.N
  pub preds-sorted : (t : ℕ) → t < K.N → Sorted (S.preds t)
  -- `pick` is a branch, no branch between the same states is nearer, and of those as near it is the first
  pub pick-branch : (y : K.Y) (s t : ℕ) → t < K.N → In s (S.preds t) → K.Branch s t (S.pick y s t)
  pub pick-sum : (y : K.Y) (s t : ℕ) (c : K.C) → s < K.N → t < K.N → K.Branch s t c → K.dist y (S.pick y s t) ≤ K.dist y c
  pub pick-tie : (y : K.Y) (s t : ℕ) (c : K.C) → s < K.N → t < K.N → K.Branch s t c → K.dist y (S.pick y s t) ≡ K.dist y c →
      K.Cle y (S.pick y s t) c

abbrev pub first : {C : Type 0} → Bool → ℕ → Surv (Path C)
first true s = alive zero (begin s)
first false s = absent

module _ {K : Code} (S : Search K) where
  open K use {Y, C, N, start, dist}
  open S use {preds, pick}

  abbrev pub extend : Y → ℕ → ℕ → Surv (Path C) → Surv (Path C)
  extend y s t o = raise (dist y (pick y t s)) (map_s (λ p. step p (pick y t s) s) o)

  unfoldable pub surv : List Y → ℕ → Surv (Path C)
  surv [] s = first (start s) s
  surv (y ∷ ys) s = choose (λ t. extend y s t (surv ys t)) (preds s)

  unfoldable pub answer : List Y → Surv (Path C)
  answer ys = choose (surv ys) (range zero N)
