-- Add, compare, select: the smaller of two sums, the first of equals, and what is kept beside a sum. A state that is not
-- reached has nothing, never a sum of 0. Whatever stands beside the sums (sequences, states or nothing), the choice is one.
--   better a b    the one with the smaller sum; a where the sums are equal
--   choose f l    the best of f at the listed states, the first of equals
--   map_s g o      g of what stands beside the sum
--   raise d o     the sum more by d
--   tag s o       the state s beside the sum
--   bare o        the sum alone
--   up o          whether there is a sum
--   state_of o     the state beside the sum; 0 where there is nothing
use Rattle.std.specs.Prelude.{Bool, true, false, List, [], ◌∷◌, ℕ, zero, ◌+◌, ltb}
use Rattle.trellis.specs.Best.{Surv, absent, alive}

module _ {P : Type 0} where
  abbrev pub keep : Bool → Surv P → Surv P → Surv P
  keep true a b = b
  keep false a b = a

  unfoldable pub better : Surv P → Surv P → Surv P
  better absent b = b
  better (alive w p) absent = alive w p
  better (alive w p) (alive v q) = keep (ltb v w) (alive w p) (alive v q)

  unfoldable pub choose : (ℕ → Surv P) → List ℕ → Surv P
  choose f [] = absent
  choose f (x ∷ xs) = better (f x) (choose f xs)

  abbrev pub map_s : {Q : Type 0} → (P → Q) → Surv P → Surv Q
  map_s g absent = absent
  map_s g (alive w p) = alive w (g p)

  abbrev pub raise : ℕ → Surv P → Surv P
  raise d absent = absent
  raise d (alive w p) = alive (w + d) p

  abbrev pub tag : ℕ → Surv P → Surv ℕ
  tag s o = map_s (λ p. s) o

  abbrev pub bare : Surv P → Surv (Unit {0})
  bare o = map_s (λ p. tt) o

  abbrev pub up : Surv P → Bool
  up absent = false
  up (alive w p) = true

abbrev pub state_of : Surv ℕ → ℕ
state_of absent = zero
state_of (alive w s) = s
