-- How far apart sums can be. Where every state leads to every state by two steps, and no symbol counts for more than D, the best sequence
-- into a state costs at most 2·D more than any allowed sequence: it could have gone with that one and left it for the last two
-- symbols. So sums less the least one stay within 2·D, however long the line, and within 3·D with one more distance.
--   Mixes K              two steps lead from every state to every state
--   Counts K D           no candidate is further than D from what was received
--   spread               the best sequence into a state beside any allowed one
--   apart                the same of the sums of a row that is the true one less some m
--   kept-most            a sum of such a row whose least is 0
--   wei-mixes            Wei's code mixes
use mathlib.Core.Path.{◌≡◌, refl, sym, ap, ◌∙◌}
use mathlib.Core.List.{List, [], ◌∷◌}
use Prim.Native.Nat.{ℕ, ◌+◌, ◌*◌, ◌/◌, ◌%◌, ◌≤◌, ◌<◌}
use native.Mathlib.Omega.{arith}
use lib.Pow.{pow_pos}
use Rattle.trellis.specs.Code.{Code, Path, begin, step, last, Allowed, cost}
use Rattle.trellis.specs.Best.{Surv, absent, alive, Best, Answer}
use Rattle.trellis.specs.Choose.{raise, bare}
use Rattle.trellis.specs.Search.{Search, Laws, surv}
use Rattle.trellis.specs.Cells.{Off}
use Rattle.trellis.specs.Measure.{Start, Measure, wei_code}
use Rattle.trellis.proofs.Optimal.{allowed-below, best-below}
use Rattle.trellis.proofs.Answer.{surv-best, best-surv, answer-best}
use Rattle.trellis.proofs.Branches.{low-before, befores-lead}
use Rattle.wei.specs.State.{bit_w4, carry_i1, carry_i2}
use Rattle.wei.specs.Symbol.{Symbol, Carries}
use Rattle.wei.proofs.States.{carry_i1-below, carry_i2-below}

pub record Mixes (K : Code) : Type 0 where
  pub via : ℕ → ℕ → ℕ
  pub first : ℕ → ℕ → K.C
  pub second : ℕ → ℕ → K.C
  pub via-below : (s t : ℕ) → s < K.N → t < K.N → via s t < K.N
  pub leaves : (s t : ℕ) → s < K.N → t < K.N → K.Branch s (via s t) (first s t)
  pub enters : (s t : ℕ) → s < K.N → t < K.N → K.Branch (via s t) t (second s t)

abbrev pub Counts : Code → ℕ → Type 0
Counts K D = (y : K.Y) (c : K.C) → K.dist y c ≤ D

module _ (K : Code) (D : ℕ) (counts : Counts K D) (M : Mixes K) where
  open K use {Y, C, N}

  pub spread : (ys : List Y) (s : ℕ) (p q : Path C) → Best K ys s p → Allowed K ys q → cost K ys p ≤ cost K ys q + 2 * D
  spread [] s p q b a = omega arith
  spread (y ∷ []) s (begin r) q b a = omega arith
  spread (y ∷ []) s (step p c r) q b a = omega (arith, counts y c)
  spread (z ∷ y ∷ ys) s p (begin r) b a = absurd a
  spread (z ∷ y ∷ ys) s p (step (begin r) c t) b a = absurd a.2
  spread (z ∷ y ∷ ys) s p (step (step q d r) c t) b a =
      let o : ℕ = last q in
      let h : o < N = allowed-below K ys q a.2.2 in
      let k : s < N = best-below K (z ∷ y ∷ ys) s p b in
      let m : ℕ = M.via o s in
      let other : Path C = step (step q (M.first o s) m) (M.second o s) s in
      let l = b.least other (k, M.enters o s h k, (M.via-below o s h k, M.leaves o s h k, a.2.2)) refl in
      omega (arith, l.by-sum, counts y (M.first o s), counts z (M.second o s))

-- ── a row of sums that is the true one less m, and whose least is 0 ──
module _ {K : Code} (S : Search K) (L : Laws S) (ys : List K.Y) (m : ℕ) (row : ℕ → Surv (Unit {0})) (off : Off S ys m row) where
  open K use {C, N}

  -- a sum of the row belongs to the best sequence into its state
  pub row-best : (s v : ℕ) → s < N → row s ≡ alive v tt → (p : Path C) × Best K ys s p × (cost K ys p ≡ v + m)
  row-best s v h e = go (surv S ys s) refl (off s h ∙ ap (raise m) e)
    where
      go : (o : Surv (Path C)) → surv S ys s ≡ o → bare o ≡ alive (v + m) tt → (p : Path C) × Best K ys s p × (cost K ys p ≡ v + m)
      go absent z k = absurd (let x : ◌≡◌ {A = ℕ} 0 1 = cc in omega arith)
      go (alive w p) z k = let (b, c) = surv-best S L ys s w p h z in let x : w ≡ v + m = cc in (p, b, c ∙ x)

  -- and the best sequence into a state has a sum in the row
  pub best-row : (s : ℕ) (p : Path C) → Best K ys s p → (v : ℕ) × (row s ≡ alive v tt) × (cost K ys p ≡ v + m)
  best-row s p b = go (row s) refl (sym (ap bare (best-surv S L ys s p b)) ∙ off s (best-below K ys s p b))
    where
      go : (o : Surv (Unit {0})) → row s ≡ o → alive (cost K ys p) tt ≡ raise m o → (v : ℕ) × (row s ≡ alive v tt) × (cost K ys p ≡ v + m)
      go absent e k = absurd (let x : ◌≡◌ {A = ℕ} 0 1 = cc in omega arith)
      go (alive v u) e k = (v, e, let x : cost K ys p ≡ v + m = cc in x)

  module _ (t : ℕ) (h : t < N) (z : row t ≡ alive 0 tt) where
    -- "its sum less the smallest sum of any reachable state": the least of all is the answer's
    pub kept-is : (s : ℕ) (p q : Path C) → Best K ys s p → Answer K ys q → (v : ℕ) × (row s ≡ alive v tt) × (v + cost K ys q ≡ cost K ys p)
    kept-is s p q b a =
        let (r, c, e) = row-best t 0 h z in
        let (w, f, g) = best-row (last q) q (answer-best S L ys q a) in
        let (v, i, j) = best-row s p b in
        let l = a.least r c.allowed in
        (v, i, omega (arith, l.by-sum))

    pub kept-most : (D : ℕ) → Counts K D → Mixes K → (s v : ℕ) → s < N → row s ≡ alive v tt → v ≤ 2 * D
    kept-most D counts M s v k e =
        let (p, b, c) = row-best s v k e in
        let (q, d, f) = row-best t 0 h z in
        omega (arith, spread K D counts M ys s p q b d.allowed)

-- ── Wei's code ──
-- the state between, and the first symbol from one state to another
abbrev mid : ℕ → ℕ → ℕ
mid s t = 4 * (s % 4) + t / 4

abbrev symbol : ℕ → ℕ → Symbol
symbol s t = record { y0 = bit_w4 s; i1 = carry_i1 s t; i2 = carry_i2 s t; i3 = 0; w1 = 0; w2 = 0 }

symbol-carries : (u s t : ℕ) → s < 16 → t < 16 → s % 4 ≡ t / 4 → Carries u s t (symbol s t)
symbol-carries u s t h k e =
    record {
      valid = record { y0-below = omega arith; i1-below = carry_i1-below s t; i2-below = carry_i2-below s t; i3-below = omega arith; w1-below = pow_pos u; w2-below = pow_pos u };
      parity = refl;
      leads = befores-lead s t k (low-before s t h e);
    }

pub wei-mixes : (u : ℕ) (M : Measure) (b : Start) → Mixes (wei_code u M b)
wei-mixes u M b =
    record {
      via = mid;
      first = λ s t. symbol s (mid s t);
      second = λ s t. symbol (mid s t) t;
      via-below = λ s t h k. omega arith;
      leaves = λ s t h k. symbol-carries u s (mid s t) h (omega arith) (omega arith);
      enters = λ s t h k. symbol-carries u (mid s t) t (omega arith) k (omega arith);
    }
