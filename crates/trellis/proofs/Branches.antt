-- The branches of Wei's code: the states before a state, and the bits of the symbols between two states. All of it rests on the
-- computed laws of `wei` (States).
--   before-in, in-before   the list `befores t` has the four states before t and no other
--   low-before, before-low  they are those whose two low bits are the two high bits of t
--   bit-i1, bit-i2         a symbol from s to t has the bits that the two states fix
use mathlib.Core.Path.{◌≡◌, refl, sym, ap, subst, ◌∙◌}
use mathlib.Core.Logic.{inl, inr, ⊎_elim}
use Prim.Native.Nat.{ℕ, zero, suc, ◌/◌, ◌%◌, ◌<◌}
use native.Mathlib.Omega.{arith}
use Rattle.trellis.specs.Lists.{In}
use Rattle.trellis.specs.Search.{Sorted}
use Rattle.trellis.specs.Pick.{befores}
use Rattle.wei.specs.State.{next_state, before, carry_i1, carry_i2}
use Rattle.wei.specs.Symbol.{Symbol, Carries}
use Rattle.wei.proofs.States.{before-below, before-rises, leads, comes-from, only-i1, only-i2}

pub before-in : (t k : ℕ) → k < 4 → In (before t k) (befores t)
before-in t zero h = inl refl
before-in t (suc zero) h = inr (inl refl)
before-in t (suc (suc zero)) h = inr (inr (inl refl))
before-in t (suc (suc (suc zero))) h = inr (inr (inr (inl refl)))
before-in t (suc (suc (suc (suc k)))) h = absurd (omega arith)

pub in-before : (s t : ℕ) → In s (befores t) → (k : ℕ) × (k < 4) × (s ≡ before t k)
in-before s t (inl e) = (0, omega arith, e)
in-before s t (inr (inl e)) = (1, omega arith, e)
in-before s t (inr (inr (inl e))) = (2, omega arith, e)
in-before s t (inr (inr (inr (inl e)))) = (3, omega arith, e)
in-before s t (inr (inr (inr (inr e)))) = absurd e

pub befores-below : (s t : ℕ) → t < 16 → In s (befores t) → s < 16
befores-below s t h m = let (k, l, e) = in-before s t m in omega (arith, before-below t k h l)

pub befores-sorted : (t : ℕ) → Sorted (befores t)
befores-sorted t = (
  λ s. ⊎_elim (up s 0 1 (omega arith)) (⊎_elim (up s 0 2 (omega arith)) (⊎_elim (up s 0 3 (omega arith)) (λ z. absurd z))),
  (
    λ s. ⊎_elim (up s 1 2 (omega arith)) (⊎_elim (up s 1 3 (omega arith)) (λ z. absurd z)),
    (λ s. ⊎_elim (up s 2 3 (omega arith)) (λ z. absurd z), (λ s z. absurd z, tt)),
  ),
)
  where
    up : (s j k : ℕ) → j < k → s ≡ before t k → before t j < s
    up s j k h e = omega (arith, before-rises t j k h)

-- the states before t are those whose two low bits are the two high bits of t
before-place : (s t : ℕ) → s % 4 ≡ t / 4 → before t (s / 4) ≡ s
unfolding before
before-place s t e = omega arith

before-mod : (t k : ℕ) → t < 16 → before t k % 4 ≡ t / 4
unfolding before
before-mod t k h = omega arith

pub low-before : (s t : ℕ) → s < 16 → s % 4 ≡ t / 4 → In s (befores t)
low-before s t h e = subst (λ (x : ℕ). In x (befores t)) (before-place s t e) (before-in t (s / 4) (omega arith))

pub before-low : (s t : ℕ) → t < 16 → In s (befores t) → s % 4 ≡ t / 4
before-low s t h m = let (k, l, e) = in-before s t m in ap (λ (x : ℕ). x % 4) e ∙ before-mod t k h

-- the two bits that the states fix lead there
pub befores-lead : (s t : ℕ) → t < 16 → In s (befores t) → next_state s (carry_i1 s t) (carry_i2 s t) ≡ t
befores-lead s t h m =
    let (k, l, e) = in-before s t m in
    subst (λ (x : ℕ). next_state x (carry_i1 x t) (carry_i2 x t) ≡ t) (sym e) (leads t k h l)

module _ (u s t : ℕ) (c : Symbol) (h : s < 16) (b : Carries u s t c) where
  pub branch_in : In s (befores t)
  branch_in =
      let e : before t (s / 4) ≡ s = ap (λ (x : ℕ). before x (s / 4)) (sym b.leads) ∙ comes-from s c.i1 c.i2 h b.valid.i1-below b.valid.i2-below in
      subst (λ (x : ℕ). In x (befores t)) e (before-in t (s / 4) (omega arith))

  pub bit-i1 : c.i1 ≡ carry_i1 s t
  bit-i1 = sym (only-i1 s c.i1 c.i2 h b.valid.i1-below b.valid.i2-below) ∙ ap (carry_i1 s) b.leads

  pub bit-i2 : c.i2 ≡ carry_i2 s t
  bit-i2 = sym (only-i2 s c.i1 c.i2 h b.valid.i1-below b.valid.i2-below) ∙ ap (carry_i2 s) b.leads
