-- Agreement on symbols is agreement on subsets (T6). Symbols of different subsets differ in a point; for one received symbol and
-- one subset there is one best symbol; so two steps of best sequences have the same symbol exactly if they have the same subset.
--   first-only     a subset has one first symbol
--   subsets-apart  symbols whose points are equal are of one subset
--   same_points    valid symbols are one exactly if both points are equal
--   picks-same     two picked symbols are one exactly if their steps have the same subset; picks-test is that as a test
--   common-points  a common beginning of symbols is a common beginning of pairs of points
use mathlib.Core.Path.{◌≡◌, refl, sym, ap, ◌∙◌}
use mathlib.Core.List.{List, [], ◌∷◌, ◌++◌, map, map-append, IsPrefix}
use mathlib.Core.Logic.{◌↔◌}
use Prim.Native.Nat.{ℕ, ◌≤◌, ◌<◌}
use native.Mathlib.Omega.{arith}
use Rattle.trellis.specs.Lists.{Every}
use Rattle.trellis.specs.Code.{Path, symbols}
use Rattle.trellis.specs.Best.{Best, Common}
use Rattle.trellis.specs.Measure.{Start, Measure, First, wei_code, Two}
use Rattle.trellis.specs.Pick.{Choice, Chooses, wei_search}
use Rattle.trellis.specs.IvEight.{points_of}
use Rattle.trellis.proofs.Lists.{prefix-cons}
use Rattle.trellis.proofs.IvEight.{allowed-valid}
use Rattle.trellis.proofs.Paths.{allowed-runs}
use Rattle.wei.specs.State.{bit_w4, subset_of, carry_i1, carry_i2, between}
use Rattle.wei.specs.Symbol.{Symbol, Valid}
use Rattle.wei.proofs.States.{carry_i1-below, carry_i2-below}
use Rattle.points.specs.declared.Point.{Point}
use Rattle.points.proofs.Apart.{symbols-apart}

-- ── bits and the number of their subset ──
subset-bits : (a b c d e f : ℕ) → b < 2 → c < 2 → e < 2 → f < 2 → subset_of a b c ≡ subset_of d e f → (a ≡ d) × (b ≡ e) × (c ≡ f)
subset-bits a b c d e f hb hc he hf z = (omega arith, omega arith, omega arith)

-- the subset of a step fixes its bits
pub step-bits : (s t s' t' : ℕ) → between s t ≡ between s' t' → (bit_w4 s ≡ bit_w4 s') × (carry_i1 s t ≡ carry_i1 s' t') × (carry_i2 s t ≡ carry_i2 s' t')
unfolding between
step-bits s t s' t' e =
    subset-bits (bit_w4 s) (carry_i1 s t) (carry_i2 s t) (bit_w4 s') (carry_i1 s' t') (carry_i2 s' t') (carry_i1-below s t) (carry_i2-below s t) (carry_i1-below s' t') (carry_i2-below s' t') e

-- ── one best symbol ──
module _ (u : ℕ) (M : Measure) (H : Choice M) (C : Chooses u M H) where
  open M use {Heard, far, ties}

  pub first-only : (y : Heard) (c d : Symbol) → First u M y c → First u M y d → c.y0 ≡ d.y0 → c.i1 ≡ d.i1 → c.i2 ≡ d.i2 → c ≡ d
  first-only y c d h k e₀ e₁ e₂ =
      let z : far y c ≡ far y d = omega (arith, h.nearest d k.valid (sym e₀) (sym e₁) (sym e₂), k.nearest c h.valid e₀ e₁ e₂) in
      C.antisym y c d e₀ e₁ e₂ (h.soonest d k.valid (sym e₀) (sym e₁) (sym e₂) z) (k.soonest c h.valid e₀ e₁ e₂ (sym z))

  -- ── two steps ──
  module _ (y : Heard) (s t s' t' : ℕ) where
    abbrev one : Symbol
    one = H y (bit_w4 s) (carry_i1 s t) (carry_i2 s t)

    abbrev two : Symbol
    two = H y (bit_w4 s') (carry_i1 s' t') (carry_i2 s' t')

    one-subset : one ≡ two → between s t ≡ between s' t'
    unfolding between
    one-subset e =
        let z₀ = sym (C.has-y0 y (bit_w4 s) (carry_i1 s t) (carry_i2 s t)) ∙ ap (λ (c : Symbol). c.y0) e ∙ C.has-y0 y (bit_w4 s') (carry_i1 s' t') (carry_i2 s' t') in
        let z₁ = sym (C.has-i1 y (bit_w4 s) (carry_i1 s t) (carry_i2 s t)) ∙ ap (λ (c : Symbol). c.i1) e ∙ C.has-i1 y (bit_w4 s') (carry_i1 s' t') (carry_i2 s' t') in
        let z₂ = sym (C.has-i2 y (bit_w4 s) (carry_i1 s t) (carry_i2 s t)) ∙ ap (λ (c : Symbol). c.i2) e ∙ C.has-i2 y (bit_w4 s') (carry_i1 s' t') (carry_i2 s' t') in
        rw (z₀, z₁, z₂)

    one_symbol : between s t ≡ between s' t' → one ≡ two
    one_symbol e = let (z₀, z₁, z₂) = step-bits s t s' t' e in cc

  pub picks-same : (same : (c d : Symbol) → Dec (c ≡ d)) (b : Start) (y : Heard) (s t s' t' : ℕ) →
      ((wei_search u M H same b).pick y s t ≡ (wei_search u M H same b).pick y s' t') ↔ (between s t ≡ between s' t')
  picks-same same b y s t s' t' = (one-subset y s t s' t', one_symbol y s t s' t')

-- ── both points equal ──
module _ (u : ℕ) (small : u ≤ 8) where
  pub same_points : (c d : Symbol) → Valid u c → Valid u d → (points_of c ≡ points_of d) ↔ (c ≡ d)
  same_points c d v w = (λ e. symbols-apart u c d small v w (ap (λ (x : Two Point). x.first) e) (ap (λ (x : Two Point). x.second) e), ap points_of)

  pub subsets-apart : (c d : Symbol) → Valid u c → Valid u d → (subset_of c.y0 c.i1 c.i2 ≡ subset_of d.y0 d.i1 d.i2 → ⊥) → points_of c ≡ points_of d → ⊥
  subsets-apart c d v w n e = n (ap (λ (x : Symbol). subset_of x.y0 x.i1 x.i2) ((same_points c d v w).0 e))

  prefix-points : (l m : List Symbol) → IsPrefix l m → IsPrefix (map points_of l) (map points_of m)
  prefix-points l m (r, e) = (map points_of r, sym (map-append points_of l r) ∙ ap (map points_of) e)

  points-prefix : (l m : List Symbol) → Every (Valid u) l → Every (Valid u) m → IsPrefix (map points_of l) (map points_of m) → IsPrefix l m
  points-prefix [] m v w k = (m, refl)
  points-prefix (c ∷ l) [] v w (r, e) = absurd (let z : ◌≡◌ {A = ℕ} 0 1 = cc in omega arith)
  points-prefix (c ∷ l) (d ∷ m) v w (r, e) =
      let z : points_of c ≡ points_of d = cc in
      let k : map points_of l ++ r ≡ map points_of m = cc in
      prefix-cons c d l m ((same_points c d v.0 w.0).0 z) (points-prefix l m v.1 w.1 (r, k))

  -- "All symbols of the longest common beginning of these sequences, both points equal"
  pub common-points : (M : Measure) (b : Start) (ys : List M.Heard) (l : List Symbol) → Every (Valid u) l →
      Common (wei_code u M b) ys l ↔ ((s : ℕ) (p : Path Symbol) → Best (wei_code u M b) ys s p → IsPrefix (map points_of l) (map points_of (symbols p)))
  common-points M b ys l v = (
    λ k s p h. prefix-points l (symbols p) (k s p h),
    λ k s p h. points-prefix l (symbols p) v (let r = allowed-runs u M b ys p h.allowed in allowed-valid u r.from (symbols p) r.allowed) (k s p h),
  )
