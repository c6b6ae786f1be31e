-- States: `before` lists exactly the states that lead to a state, each with the one I1 and I2' that carry it there.
--   leads        each of the four leads to t
--   comes-from   a step's first state is one of the four, at the place that its W1 and W2 give
--   only-i1, only-i2   the bits of a step are those that its two states fix
use mathlib.Core.Path.{◌≡◌}
use Prim.Native.Nat.{ℕ, ◌/◌, ◌<◌}
use native.Mathlib.Omega.{arith}
use Rattle.wei.specs.State.{next_state, before, carry_i1, carry_i2, between}
use Rattle.wei.proofs.Finite.{equal2, equal3}

pub next-below : (s i1 i2 : ℕ) → next_state s i1 i2 < 16
unfolding next_state
next-below s i1 i2 = omega arith

pub before-below : (t k : ℕ) → t < 16 → k < 4 → before t k < 16
unfolding before
before-below t k h g = omega arith

pub before-rises : (t j k : ℕ) → j < k → before t j < before t k
unfolding before
before-rises t j k h = omega arith

pub carry_i1-below : (s t : ℕ) → carry_i1 s t < 2
unfolding carry_i1
carry_i1-below s t = omega arith

pub carry_i2-below : (s t : ℕ) → carry_i2 s t < 2
unfolding carry_i2
carry_i2-below s t = omega arith

pub between-below : (s t : ℕ) → between s t < 8
unfolding between carry_i1 carry_i2
between-below s t = omega arith

pub leads : (t k : ℕ) → t < 16 → k < 4 → next_state (before t k) (carry_i1 (before t k) t) (carry_i2 (before t k) t) ≡ t
unfolding next_state before carry_i1 carry_i2
leads = equal2 16 4 (λ t k. next_state (before t k) (carry_i1 (before t k) t) (carry_i2 (before t k) t)) (λ t k. t) tt

pub comes-from : (s i1 i2 : ℕ) → s < 16 → i1 < 2 → i2 < 2 → before (next_state s i1 i2) (s / 4) ≡ s
unfolding next_state before
comes-from = equal3 16 2 2 (λ s a b. before (next_state s a b) (s / 4)) (λ s a b. s) tt

pub only-i1 : (s i1 i2 : ℕ) → s < 16 → i1 < 2 → i2 < 2 → carry_i1 s (next_state s i1 i2) ≡ i1
unfolding next_state carry_i1
only-i1 = equal3 16 2 2 (λ s a b. carry_i1 s (next_state s a b)) (λ s a b. a) tt

pub only-i2 : (s i1 i2 : ℕ) → s < 16 → i1 < 2 → i2 < 2 → carry_i2 s (next_state s i1 i2) ≡ i2
unfolding next_state carry_i2
only-i2 = equal3 16 2 2 (λ s a b. carry_i2 s (next_state s a b)) (λ s a b. b) tt
