-- The same results by rows: the best sequences into all states at once from those before, so that they compute in time linear
-- in the list. The recursion itself goes down every branch anew.
--   row S ys   what `surv` has at each state below N
use mathlib.Core.Path.{◌≡◌, refl, sym, ap, ◌∙◌}
use mathlib.Core.List.{List, [], ◌∷◌, map}
use mathlib.Core.Logic.{inl, inr}
use Prim.Native.Nat.{ℕ, zero, suc, ◌+◌, ◌<◌}
use native.Mathlib.Omega.{arith}
use lib.ListN.{get_or}
use Rattle.trellis.specs.Lists.{In}
use Rattle.trellis.specs.Code.{Code, Path}
use Rattle.trellis.specs.Best.{Surv, absent}
use Rattle.trellis.specs.Choose.{choose}
use Rattle.trellis.specs.Search.{Search, Laws, range, first, extend, surv, answer}
use Rattle.trellis.specs.Common.{lcps, live, common}
use Rattle.trellis.proofs.Lists.{state-below}
use Rattle.trellis.proofs.Select.{choose-ext}

get_or-range : {X : Type 0} (f : ℕ → X) (d : X) (a n i : ℕ) → i < n → get_or (map f (range a n)) i d ≡ f (a + i)
unfolding range
get_or-range f d a zero i h = absurd (omega arith)
get_or-range f d a (suc n) zero h = ap f (let z : a ≡ a + 0 = omega arith in z)
get_or-range f d a (suc n) (suc i) h = get_or-range f d (suc a) n i (omega arith) ∙ ap f (let z : suc a + i ≡ a + suc i = omega arith in z)

live-ext : {C : Type 0} (f g : ℕ → Surv (Path C)) (xs : List ℕ) → ((t : ℕ) → In t xs → f t ≡ g t) → live f xs ≡ live g xs
unfolding live
live-ext f g [] h = refl
live-ext f g (x ∷ xs) h =
    let z₁ : f x ≡ g x = h x (inl refl) in
    let z₂ : live f xs ≡ live g xs = live-ext f g xs (λ t m. h t (inr m)) in
    cc

module _ {K : Code} (S : Search K) where
  open K use {Y, C, N, start}
  open S use {preds, same}

  unfoldable pub row : List Y → List (Surv (Path C))
  row [] = map (λ s. first (start s) s) (range zero N)
  row (y ∷ ys) = let r = row ys in map (λ s. choose (λ t. extend S y s t (get_or r t absent)) (preds s)) (range zero N)

  module _ (L : Laws S) where
    at-state : {X : Type 0} (f : ℕ → X) (d : X) (s : ℕ) → s < N → get_or (map f (range zero N)) s d ≡ f s
    at-state f d s h = get_or-range f d zero N s h ∙ ap f (let z : zero + s ≡ s = omega arith in z)

    row_is : (ys : List Y) (s : ℕ) → s < N → get_or (row ys) s absent ≡ surv S ys s
    unfolding row surv
    row_is [] s h = at-state (λ s. first (start s) s) absent s h
    row_is (y ∷ ys) s h =
        at-state (λ s. choose (λ t. extend S y s t (get_or (row ys) t absent)) (preds s)) absent s h
        ∙ choose-ext (λ t. extend S y s t (get_or (row ys) t absent)) (λ t. extend S y s t (surv S ys t)) (preds s)
        (λ t m. ap (extend S y s t) (row_is ys t (L.preds-below t s h m)))

    pub answer-row : (ys : List Y) → answer S ys ≡ choose (λ s. get_or (row ys) s absent) (range zero N)
    unfolding answer
    answer-row ys = choose-ext (surv S ys) (λ s. get_or (row ys) s absent) (range zero N) (λ t m. sym (row_is ys t (state-below N t m)))

    pub common-row : (ys : List Y) → common S ys ≡ lcps same (live (λ s. get_or (row ys) s absent) (range zero N))
    unfolding common
    common-row ys = ap (lcps same) (live-ext (surv S ys) (λ s. get_or (row ys) s absent) (range zero N) (λ t m. sym (row_is ys t (state-below N t m))))
