-- There is only one best sequence into a state and only one answer (for this no search is needed); the recursion finds the
-- answer (T2); and what it finds is exactly what is best.
use mathlib.Core.Path.{◌≡◌, refl, sym, ap, subst}
use mathlib.Core.List.{List, [], ◌∷◌}
use Prim.Native.Nat.{ℕ, zero, ◌≤◌, ◌<◌}
use native.Mathlib.Omega.{arith}
use native.Mathlib.Decide.{ℕ_discrete}
use Rattle.trellis.specs.Lists.{In}
use Rattle.trellis.specs.Code.{Code, Path, begin, step, last, states, Allowed, cost, Reached}
use Rattle.trellis.specs.Order.{Each, Le, Antisym}
use Rattle.trellis.specs.Best.{Surv, absent, alive, Best, Answer, Found, Answered}
use Rattle.trellis.specs.Choose.{choose}
use Rattle.trellis.specs.Search.{Search, Laws, range, surv, answer}
use Rattle.trellis.proofs.Lists.{lex-antisym, range-sorted, state-in, state-below}
use Rattle.trellis.proofs.Choose.{Beats, Chosen, chosen}
use Rattle.trellis.proofs.Optimal.{states-last, allowed-below, best-below, le-last, surv-found}

-- ── only one ──
module _ (K : Code) (A : Antisym K) where
  open K use {Y, C, N, Branch}

  each-antisym : (ys : List Y) (p q : Path C) → Allowed K ys p → Allowed K ys q → states p ≡ states q → Each K ys p q → Each K ys q p → p ≡ q
  each-antisym [] (begin s) (begin t) a b e h k = let z : s ≡ t = cc in cc
  each-antisym [] (begin s) (step q d t) a b e h k = absurd b
  each-antisym [] (step p c s) q a b e h k = absurd a
  each-antisym (y ∷ ys) (begin s) q a b e h k = absurd a
  each-antisym (y ∷ ys) (step p c s) (begin t) a b e h k = absurd b
  each-antisym (y ∷ ys) (step p c s) (step q d t) a b e h k =
      let z₁ : states p ≡ states q = cc in
      let z₂ : s ≡ t = cc in
      let z₃ : last p ≡ last q = states-last p q z₁ in
      let b₁ : Branch (last p) s d = rw (z₂, z₃) b.1 in
      let z₄ : c ≡ d = A y (last p) s c d (allowed-below K ys p a.2) a.0 a.1 b₁ h.0 k.0 in
      let z₅ : p ≡ q = each-antisym ys p q a.2 b.2 z₁ h.1 k.1 in
      cc

  le_antisym : (ys : List Y) (p q : Path C) → Allowed K ys p → Allowed K ys q → Le K ys p q → Le K ys q p → p ≡ q
  le_antisym ys p q a b h k =
      let e : cost K ys p ≡ cost K ys q = omega arith in
      let z : states p ≡ states q = lex-antisym (states p) (states q) (h.by_tie e).by-states (k.by_tie (sym e)).by-states in
      each-antisym ys p q a b z ((h.by_tie e).by-symbols z) ((k.by_tie (sym e)).by-symbols (sym z))

  pub best-only : (ys : List Y) (s : ℕ) (p q : Path C) → Best K ys s p → Best K ys s q → p ≡ q
  best-only ys s p q h k = le_antisym ys p q h.allowed k.allowed (h.least q k.allowed k.ends) (k.least p h.allowed h.ends)

  pub answer-only : (ys : List Y) (p q : Path C) → Answer K ys p → Answer K ys q → p ≡ q
  answer-only ys p q h k = le_antisym ys p q h.allowed k.allowed (h.least q k.allowed) (k.least p h.allowed)

  same-alive : (ys : List Y) (w v : ℕ) (p q : Path C) → cost K ys p ≡ w → cost K ys q ≡ v → p ≡ q → ◌≡◌ {A = Surv (Path C)} (alive w p) (alive v q)
  same-alive ys w v p q e f z = let z₁ : cost K ys p ≡ cost K ys q = ap (cost K ys) z in cc

  pub found-only : (ys : List Y) (s : ℕ) (o r : Surv (Path C)) → Found K ys s o → Found K ys s r → o ≡ r
  found-only ys s absent absent h k = refl
  found-only ys s absent (alive v q) h k = absurd (h (record { by = q; allowed = k.0.allowed; ends = k.0.ends }))
  found-only ys s (alive w p) absent h k = absurd (k (record { by = p; allowed = h.0.allowed; ends = h.0.ends }))
  found-only ys s (alive w p) (alive v q) h k = same-alive ys w v p q h.1 k.1 (best-only ys s p q h.0 k.0)

  pub answered-only : (ys : List Y) (o r : Surv (Path C)) → Answered K ys o → Answered K ys r → o ≡ r
  answered-only ys absent absent h k = refl
  answered-only ys absent (alive v q) h k = absurd (h q k.0.allowed)
  answered-only ys (alive w p) absent h k = absurd (k p h.0.allowed)
  answered-only ys (alive w p) (alive v q) h k = same-alive ys w v p q h.1 k.1 (answer-only ys p q h.0 k.0)

-- ── the recursion ──
module _ {K : Code} (S : Search K) (L : Laws S) where
  open K use {Y, C, N}

  -- what stands at s is the best sequence into s, and the best sequence into s stands there
  pub surv-best : (ys : List Y) (s w : ℕ) (p : Path C) → s < N → surv S ys s ≡ alive w p → Best K ys s p × (cost K ys p ≡ w)
  surv-best ys s w p h e = subst (Found K ys s) e (surv-found S L ys s h)

  pub best-surv : (ys : List Y) (s : ℕ) (p : Path C) → Best K ys s p → surv S ys s ≡ alive (cost K ys p) p
  best-surv ys s p b = found-only K L.antisym ys s (surv S ys s) (alive (cost K ys p) p) (surv-found S L ys s (best-below K ys s p b)) (b, refl)

  -- each state that is reached has a best sequence
  pub reached-best : (ys : List Y) (s : ℕ) → Reached K ys s → (p : Path C) × Best K ys s p
  reached-best ys s r = go (surv S ys s) (surv-found S L ys s (omega (arith, allowed-below K ys r.by r.allowed, r.ends)))
    where
      go : (o : Surv (Path C)) → Found K ys s o → (p : Path C) × Best K ys s p
      go absent g = absurd (g r)
      go (alive w p) g = (p, g.0)

  -- ── the answer ──
  module _ (ys : List Y) where
    other-end : (s w : ℕ) (p : Path C) → Best K ys s p → cost K ys p ≡ w → (q : Path C) → Allowed K ys q → (s ≡ last q → ⊥) →
        (o : Surv (Path C)) → Found K ys (last q) o → Beats (alive w p) s o (last q) → Le K ys p q
    other-end s w p G sum q a ne absent g k = absurd (g (record { by = q; allowed = a; ends = refl }))
    other-end s w p G sum q a ne (alive v r) g k =
        let l : cost K ys r ≤ cost K ys q = (g.0.least q a refl).by-sum in
        let z₁ : cost K ys r ≡ v = g.1 in
        let z₂ : last p ≡ s = G.ends in
        le-last K ys p q (omega arith) (λ e. omega (arith, ne, k.1 (omega arith)))

    any-end : (s w : ℕ) (p : Path C) → Best K ys s p → cost K ys p ≡ w → ((t : ℕ) → In t (range zero N) → Beats (alive w p) s (surv S ys t) t) →
        (q : Path C) → Allowed K ys q → Dec (s ≡ last q) → Le K ys p q
    any-end s w p G sum k q a (yes e) = G.least q a (sym e)
    any-end s w p G sum k q a (no ne) =
        let b : last q < N = allowed-below K ys q a in
        other-end s w p G sum q a ne (surv S ys (last q)) (surv-found S L ys (last q) b) (k (last q) (state-in N (last q) b))

    from-chosen : (o : Surv (Path C)) → Chosen (surv S ys) (range zero N) o → Answered K ys o
    from-chosen absent k =
        λ q a.
        let b : last q < N = allowed-below K ys q a in
        let g : Found K ys (last q) absent = subst (Found K ys (last q)) (k (last q) (state-in N (last q) b)) (surv-found S L ys (last q) b) in
        g (record { by = q; allowed = a; ends = refl })
    from-chosen (alive w p) k =
        let G = surv-best ys k.at w p (state-below N k.at k.at_in) k.at-is in
        (record { allowed = G.0.allowed; least = λ q a. any-end k.at w p G.0 G.1 k.least q a (ℕ_discrete k.at (last q)) }, G.1)

    pub answer-answered : Answered K ys (answer S ys)
    unfolding answer
    answer-answered = from-chosen (choose (surv S ys) (range zero N)) (chosen (surv S ys) (range zero N) (range-sorted zero N))

  -- what is the answer is found
  pub answer-found : (ys : List Y) (p : Path C) → Answer K ys p → answer S ys ≡ alive (cost K ys p) p
  answer-found ys p h = answered-only K L.antisym ys (answer S ys) (alive (cost K ys p) p) (answer-answered ys) (h, refl)

  -- the answer is the best sequence into its last state
  pub answer-best : (ys : List Y) (p : Path C) → Answer K ys p → Best K ys (last p) p
  answer-best ys p h = record { allowed = h.allowed; ends = refl; least = λ q a e. h.least q a }
