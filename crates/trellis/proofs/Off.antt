-- A row of sums that is the true one less some m, at the states below N: add, compare, select gives the same cells from it, the
-- same states are live in it, it ends in the same state, the next row is again the true one less m, and a row less k more is the true
-- one less m + k.
use mathlib.Core.Path.{◌≡◌, refl, sym, ap, ◌∙◌}
use mathlib.Core.Bool.{Bool, true, false}
use mathlib.Core.List.{List, [], ◌∷◌}
use Prim.Native.Nat.{ℕ, zero, ◌+◌, ◌<◌}
use native.Mathlib.Omega.{arith}
use lib.Dec.{ltb}
use borrow.Author.Tests.{ltb-true, ltb-false, lt-ltb, le-ltb}
use Rattle.trellis.specs.Code.{Code, step}
use Rattle.trellis.specs.Best.{Surv, absent, alive}
use Rattle.trellis.specs.Choose.{keep, better, choose, map_s, raise, tag, bare, up, state_of}
use Rattle.trellis.specs.Search.{Search, Laws, range, extend, surv}
use Rattle.trellis.specs.Cells.{acs, cell, end-state, Off}
use Rattle.trellis.proofs.Lists.{state-below}
use Rattle.trellis.proofs.Select.{choose-ext, choose-bare}

-- ── sums raised ──
same_test : (m v w : ℕ) → (b : Bool) → ltb v w ≡ b → ltb (v + m) (w + m) ≡ b
same_test m v w true e = lt-ltb (v + m) (w + m) (omega (arith, ltb-true v w e))
same_test m v w false e = le-ltb (v + m) (w + m) (omega (arith, ltb-false v w e))

module _ {P : Type 0} where
  keep-raise : (m : ℕ) (b : Bool) (x y : Surv P) → keep b (raise m x) (raise m y) ≡ raise m (keep b x y)
  keep-raise m true x y = refl
  keep-raise m false x y = refl

  better-raise : (m : ℕ) (x y : Surv P) → better (raise m x) (raise m y) ≡ raise m (better x y)
  unfolding better
  better-raise m absent y = refl
  better-raise m (alive w p) absent = refl
  better-raise m (alive w p) (alive v q) =
      ap (λ (b : Bool). keep b (alive (w + m) p) (alive (v + m) q)) (same_test m v w (ltb v w) refl) ∙ keep-raise m (ltb v w) (alive w p) (alive v q)

  choose-raise : (m : ℕ) (f : ℕ → Surv P) (xs : List ℕ) → choose (λ t. raise m (f t)) xs ≡ raise m (choose f xs)
  unfolding choose
  choose-raise m f [] = refl
  choose-raise m f (x ∷ xs) = ap (better (raise m (f x))) (choose-raise m f xs) ∙ better-raise m (f x) (choose f xs)

  up-raise : (m : ℕ) (o : Surv P) → up (raise m o) ≡ up o
  up-raise m absent = refl
  up-raise m (alive w p) = refl

  up-bare : (o : Surv P) → up (bare o) ≡ up o
  up-bare absent = refl
  up-bare (alive w p) = refl

  bare-raise : (m : ℕ) (o : Surv P) → bare (raise m o) ≡ raise m (bare o)
  bare-raise m absent = refl
  bare-raise m (alive w p) = refl

  raise-swap : (d m : ℕ) (o : Surv P) → raise d (raise m o) ≡ raise m (raise d o)
  raise-swap d m absent = refl
  raise-swap d m (alive w p) = ap (λ (n : ℕ). alive n p) (let e : w + m + d ≡ w + d + m = omega arith in e)

  raise-twice : (m k : ℕ) (o : Surv P) → raise m (raise k o) ≡ raise (m + k) o
  raise-twice m k absent = refl
  raise-twice m k (alive w p) = ap (λ (n : ℕ). alive n p) (let e : w + k + m ≡ w + (m + k) = omega arith in e)

  tag-raise : (m t : ℕ) (o : Surv P) → tag t (raise m o) ≡ raise m (tag t o)
  tag-raise m t absent = refl
  tag-raise m t (alive w p) = refl

  tag-bare : (t : ℕ) (o : Surv P) → tag t o ≡ tag t (bare o)
  tag-bare t absent = refl
  tag-bare t (alive w p) = refl

  tag-map : {Q : Type 0} (d t : ℕ) (g : P → Q) (o : Surv P) → tag t (raise d (map_s g o)) ≡ tag t (raise d o)
  tag-map d t g absent = refl
  tag-map d t g (alive w p) = refl

module _ {P : Type 0} where
  -- a sum that is the other less m, with its state
  tag-off : (m t : ℕ) (o : Surv P) (r : Surv (Unit {0})) → bare o ≡ raise m r → tag t o ≡ raise m (tag t r)
  tag-off m t o r e = tag-bare t o ∙ ap (tag t) e ∙ tag-raise m t r

  raise-off : (d m : ℕ) (o : Surv P) (r : Surv (Unit {0})) → bare o ≡ raise m r → bare (raise d o) ≡ raise m (raise d r)
  raise-off d m o r e = bare-raise d o ∙ ap (raise d) e ∙ raise-swap d m r

state-raise : (m : ℕ) (o : Surv ℕ) → state_of (raise m o) ≡ state_of o
state-raise m absent = refl
state-raise m (alive w p) = refl

module _ {K : Code} (S : Search K) (L : Laws S) where
  open K use {Y, C, N, dist}
  open S use {preds, pick}

  -- the state before s by the sequences is that by their sums
  pub acs-surv : (y : Y) (ys : List Y) (s : ℕ) → choose (λ t. tag t (extend S y s t (surv S ys t))) (preds s) ≡ acs S y (surv S ys) s
  unfolding acs
  acs-surv y ys s =
      choose-ext (λ t. tag t (extend S y s t (surv S ys t))) (λ t. tag t (raise (dist y (pick y t s)) (surv S ys t))) (preds s)
      (λ t i. tag-map (dist y (pick y t s)) t (λ p. step p (pick y t s) s) (surv S ys t))

  -- ── a row that is the true one less m ──
  module _ (ys : List Y) (m : ℕ) (row : ℕ → Surv (Unit {0})) (off : Off S ys m row) where
    acs-off : (y : Y) (s : ℕ) → s < N → acs S y (surv S ys) s ≡ raise m (acs S y row s)
    unfolding acs
    acs-off y s h =
        let d : ℕ → ℕ = λ t. dist y (pick y t s) in
        choose-ext (λ t. tag t (raise (d t) (surv S ys t))) (λ t. raise m (tag t (raise (d t) (row t)))) (preds s)
        (λ t i. tag-off m t (raise (d t) (surv S ys t)) (raise (d t) (row t)) (raise-off (d t) m (surv S ys t) (row t) (off t (L.preds-below t s h i))))
        ∙ choose-raise m (λ t. tag t (raise (d t) (row t))) (preds s)

    -- the same cells
    pub off-cell : (y : Y) (s : ℕ) → s < N → cell S y row s ≡ cell S y (surv S ys) s
    unfolding cell
    off-cell y s h =
        let e : state_of (acs S y (surv S ys) s) ≡ state_of (acs S y row s) = ap state_of (acs-off y s h) ∙ state-raise m (acs S y row s) in
        ap (λ (t : ℕ). record { prev = t; symbol = pick y t s }) (sym e)

    -- the same live states
    pub off-up : (s : ℕ) → s < N → up (row s) ≡ up (surv S ys s)
    off-up s h = sym (up-raise m (row s)) ∙ ap up (sym (off s h)) ∙ up-bare (surv S ys s)

    -- the same end
    pub off-end : end-state S row ≡ end-state S (surv S ys)
    unfolding end-state
    off-end =
        sym (state-raise m (choose (λ s. tag s (row s)) (range zero N)))
        ∙ ap state_of (sym (choose-raise m (λ s. tag s (row s)) (range zero N)))
        ∙ ap state_of (choose-ext (λ s. raise m (tag s (row s))) (λ s. tag s (surv S ys s)) (range zero N)
        (λ t i. sym (tag-off m t (surv S ys t) (row t) (off t (state-below N t i)))))

    -- the new sums by add, compare, select are again the true ones less m
    pub off_next : (y : Y) → Off S (y ∷ ys) m (λ s. bare (acs S y row s))
    unfolding surv
    off_next y s h =
        choose-bare (λ t. extend S y s t (surv S ys t)) (preds s)
        ∙ ap bare (acs-surv y ys s)
        ∙ ap bare (acs-off y s h)
        ∙ bare-raise m (acs S y row s)

    -- k less at every reached state
    pub off_less : (k : ℕ) (low : ℕ → Surv (Unit {0})) → ((s : ℕ) → s < N → row s ≡ raise k (low s)) → Off S ys (m + k) low
    off_less k low e s h = off s h ∙ ap (raise m) (e s h) ∙ raise-twice m k (low s)
