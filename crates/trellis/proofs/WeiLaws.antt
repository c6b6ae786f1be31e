-- Wei's search obeys the laws of a search, for any measure and any choice that is the first of each subset, at every width and
-- with every start. And every list has an allowed sequence.
--   wei-laws     the laws of the search
--   wei-onward   some state may stand first, and every state leads on
use mathlib.Core.Path.{◌≡◌, refl, sym, ◌∙◌}
use Prim.Native.Nat.{ℕ, ◌<◌}
use native.Mathlib.Omega.{arith}
use lib.Dec.{T, eqb_refl}
use lib.Pow.{pow_pos}
use Rattle.trellis.specs.Lists.{In}
use Rattle.trellis.specs.Code.{Onward}
use Rattle.trellis.specs.Search.{Laws}
use Rattle.trellis.specs.Measure.{Start, free, named, may_start, GoodStart, Measure, First, wei_code}
use Rattle.trellis.specs.Pick.{Choice, Chooses, befores, wei_search}
use Rattle.trellis.proofs.Branches.{befores-below, befores-sorted, befores-lead, branch_in, bit-i1, bit-i2}
use Rattle.wei.specs.State.{bit_w4, next_state, carry_i1, carry_i2}
use Rattle.wei.specs.Symbol.{Symbol, Carries}
use Rattle.wei.proofs.States.{next-below, carry_i1-below, carry_i2-below}

module _ (u : ℕ) (M : Measure) (H : Choice M) (C : Chooses u M H) where
  open M use {Heard, ties}

  -- what is chosen between two states
  abbrev top : Heard → ℕ → ℕ → Symbol
  top y s t = H y (bit_w4 s) (carry_i1 s t) (carry_i2 s t)

  top-first : (y : Heard) (s t : ℕ) → First u M y (top y s t)
  top-first y s t = C.is-first y (bit_w4 s) (carry_i1 s t) (carry_i2 s t) (omega arith) (carry_i1-below s t) (carry_i2-below s t)

  choice-carries : (y : Heard) (s t : ℕ) → t < 16 → In s (befores t) → Carries u s t (H y (bit_w4 s) (carry_i1 s t) (carry_i2 s t))
  choice-carries y s t h m =
      let e₁ = C.has-i1 y (bit_w4 s) (carry_i1 s t) (carry_i2 s t) in
      let e₂ = C.has-i2 y (bit_w4 s) (carry_i1 s t) (carry_i2 s t) in
      record { valid = (top-first y s t).valid; parity = C.has-y0 y (bit_w4 s) (carry_i1 s t) (carry_i2 s t); leads = rw (e₁, e₂) (befores-lead s t h m) }

  -- a symbol between two states is of the subset of what is chosen
  module _ (y : Heard) (s t : ℕ) (c : Symbol) (h : s < 16) (b : Carries u s t c) where
    at-y0 : c.y0 ≡ (top y s t).y0
    at-y0 = b.parity ∙ sym (C.has-y0 y (bit_w4 s) (carry_i1 s t) (carry_i2 s t))

    at-i1 : c.i1 ≡ (top y s t).i1
    at-i1 = bit-i1 u s t c h b ∙ sym (C.has-i1 y (bit_w4 s) (carry_i1 s t) (carry_i2 s t))

    at-i2 : c.i2 ≡ (top y s t).i2
    at-i2 = bit-i2 u s t c h b ∙ sym (C.has-i2 y (bit_w4 s) (carry_i1 s t) (carry_i2 s t))

  antisym : (y : Heard) (s t : ℕ) (c d : Symbol) → s < 16 → t < 16 → Carries u s t c → Carries u s t d → ties y c d → ties y d c → c ≡ d
  antisym y s t c d h k b g =
      C.antisym y c d (b.parity ∙ sym g.parity) (bit-i1 u s t c h b ∙ sym (bit-i1 u s t d h g)) (bit-i2 u s t c h b ∙ sym (bit-i2 u s t d h g))

  pub wei-laws : (same : (c d : Symbol) → Dec (c ≡ d)) (b : Start) → Laws (wei_search u M H same b)
  wei-laws same b =
      record {
        antisym = antisym;
        preds-all = λ s t c h k g. branch_in u s t c h g;
        preds-below = befores-below;
        preds-sorted = λ t h. befores-sorted t;
        pick-branch = choice-carries;
        pick-sum = λ y s t c h k g. (top-first y s t).nearest c g.valid (at-y0 y s t c h g) (at-i1 y s t c h g) (at-i2 y s t c h g);
        pick-tie = λ y s t c h k g. (top-first y s t).soonest c g.valid (at-y0 y s t c h g) (at-i1 y s t c h g) (at-i2 y s t c h g);
      }

module _ (u : ℕ) (M : Measure) where
  from : (b : Start) → GoodStart b → (n : ℕ) × (n < 16) × T (may_start b n)
  from free h = (0, omega arith, tt)
  from (named n) h = (n, h, eqb_refl n)

  pub wei-onward : (b : Start) → GoodStart b → Onward (wei_code u M b)
  wei-onward b h =
      let (n, l, t) = from b h in
      record {
        from = n;
        from-below = l;
        from_start = t;
        to = λ s. next_state s 0 0;
        by = λ s. record { y0 = bit_w4 s; i1 = 0; i2 = 0; i3 = 0; w1 = 0; w2 = 0 };
        to_below = λ s h. next-below s 0 0;
        to-branch = λ s h. record {
          valid = record { y0-below = omega arith; i1-below = omega arith; i2-below = omega arith; i3-below = omega arith; w1-below = pow_pos u; w2-below = pow_pos u };
          parity = refl;
          leads = refl;
        };
      }
