-- The recursion finds the best sequence into each state (T1): by induction over the list, from what `choose` chooses. Where it
-- finds nothing, no allowed sequence ends there.
use mathlib.Core.Path.{◌≡◌, refl, sym, ap, subst, ◌∙◌}
use mathlib.Core.Bool.{Bool, true, false}
use mathlib.Core.List.{List, [], ◌∷◌}
use Prim.Native.Nat.{ℕ, ◌+◌, ◌≤◌, ◌<◌}
use native.Mathlib.Omega.{arith}
use native.Mathlib.Decide.{ℕ_discrete}
use lib.Dec.{T}
use Rattle.trellis.specs.Lists.{In, LexLe}
use Rattle.trellis.specs.Code.{Code, Path, begin, step, last, states, Allowed, cost}
use Rattle.trellis.specs.Order.{Le}
use Rattle.trellis.specs.Best.{Surv, absent, alive, Best, Found}
use Rattle.trellis.specs.Choose.{choose}
use Rattle.trellis.specs.Search.{Search, Laws, first, extend, surv}
use Rattle.trellis.proofs.Choose.{absent-alive, Beats, Chosen, chosen}

module _ {C : Type 0} where
  lex-last : (p q : Path C) → last p < last q → LexLe (states p) (states q)
  lex-last (begin s) (begin t) h = (omega arith, λ e. absurd (omega arith))
  lex-last (begin s) (step q d t) h = (omega arith, λ e. absurd (omega arith))
  lex-last (step p c s) (begin t) h = (omega arith, λ e. absurd (omega arith))
  lex-last (step p c s) (step q d t) h = (omega arith, λ e. absurd (omega arith))

  pub states-last : (p q : Path C) → states p ≡ states q → last p ≡ last q
  states-last (begin s) (begin t) h = cc
  states-last (begin s) (step q d t) h = cc
  states-last (step p c s) (begin t) h = cc
  states-last (step p c s) (step q d t) h = cc

module _ (K : Code) where
  open K use {Y, C, N, Branch, dist, Cle}

  pub allowed-below : (ys : List Y) (p : Path C) → Allowed K ys p → last p < N
  allowed-below [] (begin s) a = a.0
  allowed-below [] (step p c s) a = absurd a
  allowed-below (y ∷ ys) (begin s) a = absurd a
  allowed-below (y ∷ ys) (step p c s) a = a.0

  pub best-below : (ys : List Y) (s : ℕ) (p : Path C) → Best K ys s p → s < N
  best-below ys s p b = omega (arith, allowed-below ys p b.allowed, b.ends)

  -- ── three ways to be before ──
  -- a smaller sum, or the same sum and a smaller last state
  pub le-last : (ys : List Y) (p q : Path C) → cost K ys p ≤ cost K ys q → (cost K ys p ≡ cost K ys q → last p < last q) → Le K ys p q
  le-last ys p q h k =
      record {
        by-sum = h;
        by_tie = λ e. record { by-states = lex-last p q (k e); by-symbols = λ z. absurd (omega (arith, k e, states-last p q z)) };
      }

  -- a smaller sum, or the same sum, the same last state and a smaller state before it
  le-before : (y : Y) (ys : List Y) (p q : Path C) (c d : C) (s t : ℕ) → t ≡ s → cost K ys p + dist y c ≤ cost K ys q + dist y d →
      (cost K ys p + dist y c ≡ cost K ys q + dist y d → last p < last q) → Le K (y ∷ ys) (step p c s) (step q d t)
  le-before y ys p q c d s t e h k =
      record {
        by-sum = h;
        by_tie = λ e'. record {
          by-states = (omega arith, λ z. lex-last p q (k e'));
          by-symbols = λ z. absurd (let r : states p ≡ states q = cc in omega (arith, k e', states-last p q r));
        };
      }

  -- one more symbol on both
  le_step : (y : Y) (ys : List Y) (p q : Path C) (c d : C) (s t : ℕ) → t ≡ s → Le K ys p q → dist y c ≤ dist y d →
      (dist y c ≡ dist y d → Cle y c d) → Le K (y ∷ ys) (step p c s) (step q d t)
  le_step y ys p q c d s t e l h k =
      record {
        by-sum = omega arith;
        by_tie = λ e'. record {
          by-states = (omega arith, λ z. (l.by_tie (omega arith)).by-states);
          by-symbols = λ z. (k (omega arith), (l.by_tie (omega arith)).by-symbols (cc));
        };
      }

module _ {K : Code} (S : Search K) (L : Laws S) where
  open K use {Y, C, N, start, Branch, dist}
  open S use {preds, pick}

  -- ── before any symbol ──
  first-least : (s : ℕ) (q : Path C) → Allowed K [] q → last q ≡ s → Le K [] (begin s) q
  first-least s (begin t) a e = record { by-sum = omega arith; by_tie = λ z. record { by-states = (omega arith, λ z. tt); by-symbols = λ z. tt } }
  first-least s (step q d t) a e = absurd a

  first-none : (s : ℕ) → start s ≡ false → (q : Path C) → Allowed K [] q → last q ≡ s → ⊥
  first-none s z (begin t) a e = subst T (ap start e ∙ z) a.1
  first-none s z (step q d t) a e = absurd a

  first_found : (s : ℕ) → s < N → (b : Bool) → start s ≡ b → Found K [] s (first b s)
  first_found s h true e = (record { allowed = (h, subst T (sym e) tt); ends = refl; least = first-least s }, refl)
  first_found s h false e = λ r. first-none s e r.by r.allowed r.ends

  -- ── one more symbol ──
  module _ (y : Y) (ys : List Y) (s : ℕ) (h : s < N) (ih : (t : ℕ) → t < N → Found K ys t (surv S ys t)) where
    -- where nothing leads on to s, no sequence ends there
    gone : (t : ℕ) (q : Path C) → Allowed K ys q → last q ≡ t → (o : Surv (Path C)) → Found K ys t o → extend S y s t o ≡ absent → ⊥
    gone t q a e absent g z = g (record { by = q; allowed = a; ends = e })
    gone t q a e (alive w p) g z = absent-alive (sym z)

    none : ((t : ℕ) → In t (preds s) → extend S y s t (surv S ys t) ≡ absent) → (q : Path C) → Allowed K (y ∷ ys) q → last q ≡ s → ⊥
    none k (begin t) a e = absurd a
    none k (step q d t) a e =
        let b = allowed-below K ys q a.2 in
        gone (last q) q a.2 refl (surv S ys (last q)) (ih (last q) b)
        (k (last q) (L.preds-all (last q) s d b h (subst (λ (u : ℕ). Branch (last q) u d) e a.1)))

    -- the sequence by t₀ that is chosen, against each other one
    module _ (t₀ v : ℕ) (p : Path C) (G : Best K ys t₀ p) (sum : cost K ys p ≡ v) where
      abbrev c₀ : C
      c₀ = pick y t₀ s

      abbrev new : Surv (Path C)
      new = alive (v + dist y c₀) (step p c₀ s)

      other : (q : Path C) (d : C) (t : ℕ) → t ≡ s → Allowed K ys q → Branch (last q) s d → (t₀ ≡ last q → ⊥) →
          (o : Surv (Path C)) → Found K ys (last q) o → Beats new t₀ (extend S y s (last q) o) (last q) → Le K (y ∷ ys) (step p c₀ s) (step q d t)
      other q d t e a b ne absent g k = absurd (g (record { by = q; allowed = a; ends = refl }))
      other q d t e a b ne (alive w r) g k =
          let u : dist y (pick y (last q) s) ≤ dist y d = L.pick-sum y (last q) s d (allowed-below K ys q a) h b in
          let l : cost K ys r ≤ cost K ys q = (g.0.least q a refl).by-sum in
          let z₁ : cost K ys r ≡ w = g.1 in
          let z₂ : last p ≡ t₀ = G.ends in
          le-before K y ys p q c₀ d s t e (omega arith) (λ e'. omega (arith, ne, k.1 (omega arith)))

      against : (q : Path C) (d : C) (t : ℕ) → t ≡ s → Allowed K ys q → Branch (last q) s d →
          Beats new t₀ (extend S y s (last q) (surv S ys (last q))) (last q) → Dec (t₀ ≡ last q) → Le K (y ∷ ys) (step p c₀ s) (step q d t)
      against q d t e a b k (yes e₀) =
          let b' : Branch t₀ s d = subst (λ (u : ℕ). Branch u s d) (sym e₀) b in
          let h₀ : t₀ < N = omega (arith, allowed-below K ys q a) in
          le_step K y ys p q c₀ d s t e (G.least q a (sym e₀)) (L.pick-sum y t₀ s d h₀ h b') (L.pick-tie y t₀ s d h₀ h b')
      against q d t e a b k (no ne) = other q d t e a b ne (surv S ys (last q)) (ih (last q) (allowed-below K ys q a)) k

      against-all : ((t : ℕ) → In t (preds s) → Beats new t₀ (extend S y s t (surv S ys t)) t) →
          (q : Path C) → Allowed K (y ∷ ys) q → last q ≡ s → Le K (y ∷ ys) (step p c₀ s) q
      against-all k (begin t) a e = absurd a
      against-all k (step q d t) a e =
          let b : Branch (last q) s d = subst (λ (u : ℕ). Branch (last q) u d) e a.1 in
          against q d t e a.2 b (k (last q) (L.preds-all (last q) s d (allowed-below K ys q a.2) h b)) (ℕ_discrete t₀ (last q))

    unwind : (t₀ : ℕ) → In t₀ (preds s) → (o : Surv (Path C)) → Found K ys t₀ o → (w : ℕ) (r : Path C) → extend S y s t₀ o ≡ alive w r →
        ((t : ℕ) → In t (preds s) → Beats (alive w r) t₀ (extend S y s t (surv S ys t)) t) → Found K (y ∷ ys) s (alive w r)
    unwind t₀ m absent g w r e k = absurd (absent-alive e)
    unwind t₀ m (alive v p) (G, sum) w r e k =
        subst (Found K (y ∷ ys) s) e (
          record {
            allowed = (h, subst (λ (u : ℕ). Branch u s (pick y t₀ s)) (sym G.ends) (L.pick-branch y t₀ s h m), G.allowed);
            ends = refl;
            least = against-all t₀ v p G sum (λ t m'. subst (λ (o : Surv (Path C)). Beats o t₀ (extend S y s t (surv S ys t)) t) (sym e) (k t m'));
          },
          ap (λ (u : ℕ). u + dist y (pick y t₀ s)) sum,
        )

    pass : (o : Surv (Path C)) → Chosen (λ t. extend S y s t (surv S ys t)) (preds s) o → Found K (y ∷ ys) s o
    pass absent k = λ r. none k r.by r.allowed r.ends
    pass (alive w r) k = unwind k.at k.at_in (surv S ys k.at) (ih k.at (L.preds-below k.at s h k.at_in)) w r k.at-is k.least

  pub surv-found : (ys : List Y) (s : ℕ) → s < N → Found K ys s (surv S ys s)
  unfolding surv
  surv-found [] s h = first_found s h (start s) refl
  surv-found (y ∷ ys) s h =
      pass y ys s h (surv-found ys) (choose (λ t. extend S y s t (surv S ys t)) (preds s))
      (chosen (λ t. extend S y s t (surv S ys t)) (preds s) (L.preds-sorted s h))
