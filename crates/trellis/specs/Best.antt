-- What the best sequence into a state, the answer for a list and the longest common beginning are: by what they are and
-- nothing about how they are found.
--   Best K ys s p      p is the best sequence for ys that ends in s
--   Answer K ys p      p is the answer for ys
--   Common K ys l      every best sequence, into whatever state, begins with the symbols l
--   Longest K ys l     l is the longest common beginning
--   Surv P             a sum and what has it, or nothing
--   Found K ys s o     o is the best sequence into s with its sum, and nothing exactly if s is not reached
--   Answered K ys o    o is the answer with its sum, and nothing exactly if no sequence is allowed
use Rattle.std.specs.Prelude.{◌≡◌, ℕ, ◌≤◌, length}
use mathlib.Core.List.{List, IsPrefix}
use Rattle.trellis.specs.Code.{Code, Path, last, symbols, Allowed, cost, Reached}
use Rattle.trellis.specs.Order.{Le}

pub data Surv (P : Type 0) : Type 0 where
  absent : Surv P
  alive : ℕ → P → Surv P

module _ (K : Code) where
  open K use {Y, C}

  -- "for each reachable state the best sequence ending there (same ties)"
  pub record Best (ys : List Y) (s : ℕ) (p : Path C) : Type 0 where
    pub allowed : Allowed K ys p
    pub ends : last p ≡ s
    pub least : (q : Path C) → Allowed K ys q → last q ≡ s → Le K ys p q

  -- "the allowed sequence with the least sum of squared distances. Ties: .."; 02, Wish 8: "least sum of counted distances"
  pub record Answer (ys : List Y) (p : Path C) : Type 0 where
    pub allowed : Allowed K ys p
    pub least : (q : Path C) → Allowed K ys q → Le K ys p q

  abbrev pub Common : List Y → List C → Type 0
  Common ys l = (s : ℕ) (p : Path C) → Best ys s p → IsPrefix l (symbols p)

  -- "the longest common beginning of these sequences"
  pub record Longest (ys : List Y) (l : List C) : Type 0 where
    pub common : Common ys l
    pub longest : (m : List C) → Common ys m → length m ≤ length l

  abbrev pub Found : List Y → ℕ → Surv (Path C) → Type 0
  Found ys s absent = Reached K ys s → ⊥
  Found ys s (alive w p) = Best ys s p × (cost K ys p ≡ w)

  abbrev pub Answered : List Y → Surv (Path C) → Type 0
  Answered ys absent = (p : Path C) → Allowed K ys p → ⊥
  Answered ys (alive w p) = Answer ys p × (cost K ys p ≡ w)
