-- How much more than the sent sequence a best one costs at most, where in every subset some symbol costs at most E more than the sent one:
-- the best sequence into a state could have gone with the sent one and left it for the last two symbols.
--   Instead, Handy u M E x c   of each subset some symbol costs at most E more than c
--   detour            a best sequence costs at most 2·E more than the sent one
--   detour-low        and at most E more, where its last state stands low beside the sent one's
use mathlib.Core.Path.{◌≡◌, refl, sym, ap₂, subst, ◌∙◌}
use mathlib.Core.List.{List, [], ◌∷◌}
use Prim.Native.Nat.{ℕ, ◌+◌, ◌*◌, ◌/◌, ◌%◌, ◌≤◌, ◌<◌}
use lib.Pow.{pow_pos}
use native.Mathlib.Omega.{arith}
use Rattle.wei.specs.State.{bit_w4, next_state, carry_i1, carry_i2}
use Rattle.wei.specs.Symbol.{Symbol, Valid, Carries}
use Rattle.trellis.specs.Code.{Code, Path, begin, step, last, Allowed, cost}
use Rattle.trellis.specs.Best.{Best}
use Rattle.trellis.specs.Measure.{Start, Measure, wei_code}
use Rattle.trellis.proofs.Optimal.{allowed-below, best-below}
use Rattle.trellis.proofs.Branches.{low-before, befores-lead}
use Rattle.wei.proofs.States.{carry_i1-below, carry_i2-below}
use Rattle.trellis.proofs.Sent.{AlongPath}
use Rattle.margins.proofs.Potential.{level, middle, Low, high, last-only, before-only, low-is}

-- in place of c a symbol with these Y0, I1 and I2'
pub record Instead (u : ℕ) (M : Measure) (E : ℕ) (x : M.Heard) (c : Symbol) (y i j : ℕ) : Type 0 where
  pub by : Symbol
  pub by-valid : Valid u by
  pub has-y0 : by.y0 ≡ y
  pub has-i1 : by.i1 ≡ i
  pub has-i2 : by.i2 ≡ j
  pub costs : M.far x by ≤ M.far x c + E

abbrev pub Handy : (u : ℕ) (M : Measure) (E : ℕ) → M.Heard → Symbol → Type 0
Handy u M E x c = (y i j : ℕ) → y < 2 → i < 2 → j < 2 → Instead u M E x c y i j

-- ---- two steps from one state to another

abbrev plain : ℕ → ℕ → Symbol
plain s t = record { y0 = bit_w4 s; i1 = carry_i1 s t; i2 = carry_i2 s t; i3 = 0; w1 = 0; w2 = 0 }

module _ (u : ℕ) where
  plain-carries : (s t : ℕ) → s < 16 → t < 16 → s % 4 ≡ t / 4 → Carries u s t (plain s t)
  plain-carries s t h k e =
      record {
        valid = record { y0-below = omega arith; i1-below = carry_i1-below s t; i2-below = carry_i2-below s t; i3-below = omega arith; w1-below = pow_pos u; w2-below = pow_pos u };
        parity = refl;
        leads = befores-lead s t k (low-before s t h e);
      }

  middle-below : (s t : ℕ) → s < 16 → t < 16 → middle s t < 16
  unfolding middle
  middle-below s t h k = omega arith

  leaves : (s t : ℕ) → s < 16 → t < 16 → Carries u s (middle s t) (plain s (middle s t))
  unfolding middle
  leaves s t h k = plain-carries s (middle s t) h (middle-below s t h k) (omega arith)

  enters : (s t : ℕ) → s < 16 → t < 16 → Carries u (middle s t) t (plain (middle s t) t)
  unfolding middle
  enters s t h k = plain-carries (middle s t) t (middle-below s t h k) k (omega arith)

module _ (u : ℕ) (M : Measure) (b : Start) (E : ℕ) where
  open M use {Heard, far}

  abbrev K : Code
  K = wei_code u M b

  -- in place of any symbol between two states
  module _ (x : Heard) (c : Symbol) (H : Handy u M E x c) (s t : ℕ) (d : Symbol) (k : Carries u s t d) where
    found : Instead u M E x c d.y0 d.i1 d.i2
    found = H d.y0 d.i1 d.i2 k.valid.y0-below k.valid.i1-below k.valid.i2-below

    unfoldable instead : Symbol
    instead = found.by

    instead-carries : Carries u s t instead
    unfolding instead
    instead-carries =
        record { valid = found.by-valid; parity = found.has-y0 ∙ k.parity; leads = ap₂ (next_state s) found.has-i1 found.has-i2 ∙ k.leads }

    instead-costs : far x instead ≤ far x c + E
    unfolding instead
    instead-costs = found.costs

  -- a line of one symbol: another one between the same states
  one_symbol : (y : Heard) (s : ℕ) (p q : Path Symbol) → Best K (y ∷ []) s p → Allowed K (y ∷ []) q → AlongPath (Handy u M E) (y ∷ []) q → cost K (y ∷ []) p ≤ cost K (y ∷ []) q + E
  one_symbol y s (begin r) q g a h = absurd g.allowed
  one_symbol y s (step p c r) (begin t) g a h = absurd a
  one_symbol y s (step p c r) (step q d t) g a h =
      let k = g.allowed in
      let l = g.least (step p (instead y d h.0 (last p) r c k.1) r) (k.0, instead-carries y d h.0 (last p) r c k.1, k.2) g.ends in
      omega (arith, l.by-sum, instead-costs y d h.0 (last p) r c k.1)

  pub detour : (ys : List Heard) (s : ℕ) (p q : Path Symbol) → Best K ys s p → Allowed K ys q → AlongPath (Handy u M E) ys q → cost K ys p ≤ cost K ys q + 2 * E
  detour [] s p q g a h = omega arith
  detour (y ∷ []) s p q g a h = omega (arith, one_symbol y s p q g a h)
  detour (z ∷ y ∷ ys) s p (begin r) g a h = absurd a
  detour (z ∷ y ∷ ys) s p (step (begin r) c t) g a h = absurd a.2
  detour (z ∷ y ∷ ys) s p (step (step q d r) c t) g a h =
      let o : ℕ = last q in
      let i : o < 16 = allowed-below K ys q a.2.2 in
      let k : s < 16 = best-below K (z ∷ y ∷ ys) s p g in
      let m : ℕ = middle o s in
      let l =
      g.least (step (step q (instead y d h.1.0 o m (plain o m) (leaves u o s i k)) m) (instead z c h.0 m s (plain m s) (enters u o s i k)) s)
      (k, instead-carries z c h.0 m s (plain m s) (enters u o s i k), (middle-below u o s i k, instead-carries y d h.1.0 o m (plain o m) (leaves u o s i k), a.2.2)) refl in
      omega (arith, l.by-sum, instead-costs y d h.1.0 o m (plain o m) (leaves u o s i k), instead-costs z c h.0 m s (plain m s) (enters u o s i k))

  -- a sequence into a state that stands low beside the sent one
  pub detour-low : (ys : List Heard) (s : ℕ) (p q : Path Symbol) → Best K ys s p → Allowed K ys q → AlongPath (Handy u M E) ys q → level s (last q) ≤ 3 → cost K ys p ≤ cost K ys q + E
  detour-low [] s p q g a h n = omega arith
  detour-low (y ∷ []) s p q g a h n = one_symbol y s p q g a h
  detour-low (z ∷ y ∷ ys) s p (begin r) g a h n = absurd a
  detour-low (z ∷ y ∷ ys) s p (step (begin r) c t) g a h n = absurd a.2
  detour-low (z ∷ y ∷ ys) s p (step (step q d r) c t) g a h n = go (subst (λ (x : ℕ). Low (last q) s r x c.i1 c.i2) a.1.leads low)
    where
      i : last q < 16
      i = allowed-below K ys q a.2.2

      k : s < 16
      k = best-below K (z ∷ y ∷ ys) s p g

      low : Low (last q) s r (next_state r c.i1 c.i2) c.i1 c.i2
      low =
          let w = a.2.1 in
          subst (λ (x : ℕ). Low (last q) s x (next_state x c.i1 c.i2) c.i1 c.i2) w.leads
          (low-is (last q) s d.i1 d.i2 c.i1 c.i2 i k w.valid.i1-below w.valid.i2-below a.1.valid.i1-below a.1.valid.i2-below)

      go : Low (last q) s r t c.i1 c.i2 → cost K (z ∷ y ∷ ys) p ≤ cost K (z ∷ y ∷ ys) (step (step q d r) c t) + E
      go (high e) = absurd (omega arith)
      go (last-only e) =
          let x : Carries u r s (plain (middle (last q) s) s) = subst (λ (w : ℕ). Carries u w s (plain (middle (last q) s) s)) e (enters u (last q) s i k) in
          let l = g.least (step (step q d r) (instead z c h.0 r s (plain (middle (last q) s) s) x) s) (k, instead-carries z c h.0 r s (plain (middle (last q) s) s) x, a.2) refl in
          omega (arith, l.by-sum, instead-costs z c h.0 r s (plain (middle (last q) s) s) x)
      go (before-only e f) =
          let m : ℕ = middle (last q) s in
          let x = leaves u (last q) s i k in
          let w : Carries u m s c = record { valid = a.1.valid; parity = a.1.parity ∙ sym e; leads = f } in
          let l =
          g.least (step (step q (instead y d h.1.0 (last q) m (plain (last q) m) x) m) c s)
          (k, w, (middle-below u (last q) s i k, instead-carries y d h.1.0 (last q) m (plain (last q) m) x, a.2.2)) refl in
          omega (arith, l.by-sum, instead-costs y d h.1.0 (last q) m (plain (last q) m) x)
