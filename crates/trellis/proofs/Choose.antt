-- What `choose` chooses: the least sum, and of equals the one at the smallest state. Leans on specs/Choose alone.
--   Beats o x a t   o, found at x, goes before a, found at t
--   From f l o      o stands in f at a listed state and beats all others
--   Chosen f l o    o is chosen from f at l; nothing exactly if nothing is there
use mathlib.Core.Path.{◌≡◌, refl, sym, ap, subst, ◌∙◌}
use mathlib.Core.Bool.{Bool, true, false}
use mathlib.Core.List.{List, [], ◌∷◌}
use mathlib.Core.Logic.{inl, inr, ⊎_elim}
use Prim.Native.Nat.{ℕ, ◌≤◌, ◌<◌}
use native.Mathlib.Omega.{arith}
use lib.Dec.{ltb}
use borrow.Author.Tests.{ltb-true, ltb-false}
use Rattle.trellis.specs.Lists.{In}
use Rattle.trellis.specs.Best.{Surv, absent, alive}
use Rattle.trellis.specs.Choose.{keep, better, choose}
use Rattle.trellis.specs.Search.{Sorted}

pub absent-alive : {P : Type 0} {w : ℕ} {p : P} → absent ≡ alive w p → ⊥
absent-alive e = let z : ◌≡◌ {A = ℕ} 0 1 = cc in omega arith

module _ {P : Type 0} where
  abbrev pub Beats : Surv P → ℕ → Surv P → ℕ → Type 0
  Beats o x absent t = Unit {0}
  Beats absent x (alive v q) t = ⊥
  Beats (alive w p) x (alive v q) t = (w ≤ v) × (w ≡ v → x ≤ t)

  pub record From (f : ℕ → Surv P) (xs : List ℕ) (o : Surv P) : Type 0 where
    pub at : ℕ
    pub at_in : In at xs
    pub at-is : f at ≡ o
    pub least : (t : ℕ) → In t xs → Beats o at (f t) t

  abbrev pub Chosen : (ℕ → Surv P) → List ℕ → Surv P → Type 0
  Chosen f xs absent = (t : ℕ) → In t xs → f t ≡ absent
  Chosen f xs (alive w p) = From f xs (alive w p)

  beats-self : (w : ℕ) (p : P) (o : Surv P) (x t : ℕ) → o ≡ alive w p → x ≤ t → Beats (alive w p) x o t
  beats-self w p o x t e h = rw e (omega arith)

  beats-none : (w : ℕ) (p : P) (o : Surv P) (x t : ℕ) → o ≡ absent → Beats (alive w p) x o t
  beats-none w p o x t e = rw e tt

  beats-less : (w v : ℕ) (p q : P) (o : Surv P) (x t : ℕ) → o ≡ alive w p → v < w → Beats (alive v q) x o t
  beats-less w v p q o x t e h = rw e (omega arith)

  beats-trans : (w v : ℕ) (p q : P) (o : Surv P) (x y t : ℕ) → w ≤ v → x < t → Beats (alive v q) y o t → Beats (alive w p) x o t
  beats-trans w v p q absent x y t h k b = tt
  beats-trans w v p q (alive u r) x y t h k b = omega arith

  -- one state before all listed
  module _ (f : ℕ → Surv P) (x : ℕ) (xs : List ℕ) (below : (t : ℕ) → In t xs → x < t) where
    -- the choice stands further on; or it is x
    later : (o : Surv P) (k : From f xs o) → Beats o k.at (f x) x → From f (x ∷ xs) o
    later o k b =
        record {
          at = k.at;
          at_in = inr k.at_in;
          at-is = k.at-is;
          least = λ t. ⊎_elim (λ (m : t ≡ x). subst (λ (u : ℕ). Beats o k.at (f u) u) (sym m) b) (k.least t);
        }

    now : (w : ℕ) (p : P) → f x ≡ alive w p → ((t : ℕ) → In t xs → Beats (alive w p) x (f t) t) → From f (x ∷ xs) (alive w p)
    now w p e k =
        record {
          at = x;
          at_in = inl refl;
          at-is = e;
          least = λ t. ⊎_elim (λ (m : t ≡ x). beats-self w p (f t) x t (ap f m ∙ e) (omega arith)) (k t);
        }

    merge-two : (w v : ℕ) (p q : P) → f x ≡ alive w p → From f xs (alive v q) → (b : Bool) → ltb v w ≡ b →
        Chosen f (x ∷ xs) (keep b (alive w p) (alive v q))
    merge-two w v p q e k true h = later (alive v q) k (beats-less w v p q (f x) k.at x e (ltb-true v w h))
    merge-two w v p q e k false h = now w p e (λ t m. beats-trans w v p q (f t) x k.at t (ltb-false v w h) (below t m) (k.least t m))

    merge : (a : Surv P) → f x ≡ a → (b : Surv P) → Chosen f xs b → Chosen f (x ∷ xs) (better a b)
    unfolding better
    merge absent e absent k = λ t. ⊎_elim (λ (m : t ≡ x). ap f m ∙ e) (k t)
    merge absent e (alive v q) k = later (alive v q) k (beats-none v q (f x) k.at x e)
    merge (alive w p) e absent k = now w p e (λ t m. beats-none w p (f t) x t (k t m))
    merge (alive w p) e (alive v q) k = merge-two w v p q e k (ltb v w) refl

  pub chosen : (f : ℕ → Surv P) (xs : List ℕ) → Sorted xs → Chosen f xs (choose f xs)
  unfolding choose
  chosen f [] h = λ t m. absurd m
  chosen f (x ∷ xs) h = merge f x xs h.0 (f x) refl (choose f xs) (chosen f xs h.1)
