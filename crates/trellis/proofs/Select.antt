-- The choice looks at sums alone: chosen with states beside the sums instead of sequences, the state is the one at which the
-- chosen sequence stands. Leans on specs/Choose.
--   Picked f l o r   o is chosen from f, r with states beside the sums: r has o's sum, and its state is listed and has o
use mathlib.Core.Path.{◌≡◌, refl, sym, ap, subst, ◌∙◌}
use mathlib.Core.Bool.{Bool, true, false}
use mathlib.Core.List.{List, [], ◌∷◌, ◌++◌}
use mathlib.Core.Logic.{inl, inr}
use Prim.Native.Nat.{ℕ}
use native.Mathlib.Omega.{arith}
use lib.Dec.{ltb}
use borrow.Author.Tests.{ltb-true, ltb-false, lt-ltb, le-ltb}
use Rattle.trellis.specs.Lists.{In}
use Rattle.trellis.specs.Best.{Surv, absent, alive}
use Rattle.trellis.specs.Choose.{keep, better, choose, tag, bare, state_of}
use Rattle.trellis.proofs.Choose.{absent-alive}

module _ {P : Type 0} where
  pub choose-ext : (f g : ℕ → Surv P) (xs : List ℕ) → ((t : ℕ) → In t xs → f t ≡ g t) → choose f xs ≡ choose g xs
  unfolding choose
  choose-ext f g [] h = refl
  choose-ext f g (x ∷ xs) h =
      let z₁ : f x ≡ g x = h x (inl refl) in
      let z₂ : choose f xs ≡ choose g xs = choose-ext f g xs (λ t m. h t (inr m)) in
      cc

  abbrev Picked : (ℕ → Surv P) → List ℕ → Surv P → Surv ℕ → Type 0
  Picked f xs absent absent = Unit {0}
  Picked f xs absent (alive v t) = ⊥
  Picked f xs (alive w p) absent = ⊥
  Picked f xs (alive w p) (alive v t) = (w ≡ v) × In t xs × (f t ≡ alive w p)

  picked_more : (f : ℕ → Surv P) (x : ℕ) (xs : List ℕ) (o : Surv P) (r : Surv ℕ) → Picked f xs o r → Picked f (x ∷ xs) o r
  picked_more f x xs absent absent k = tt
  picked_more f x xs absent (alive v t) k = absurd k
  picked_more f x xs (alive w p) absent k = absurd k
  picked_more f x xs (alive w p) (alive v t) k = (k.0, inr k.1, k.2)

  picked-two : (f : ℕ → Surv P) (x : ℕ) (xs : List ℕ) (w v u t : ℕ) (p q : P) → f x ≡ alive w p → Picked f xs (alive v q) (alive u t) → (b : Bool) →
      Picked f (x ∷ xs) (keep b (alive w p) (alive v q)) (keep b (alive w x) (alive u t))
  picked-two f x xs w v u t p q e k true = (k.0, inr k.1, k.2)
  picked-two f x xs w v u t p q e k false = (refl, inl refl, e)

  picked : (f : ℕ → Surv P) (xs : List ℕ) → Picked f xs (choose f xs) (choose (λ t. tag t (f t)) xs)
  unfolding choose better
  picked f [] = tt
  picked f (x ∷ xs) = go (f x) refl (choose f xs) (choose (λ t. tag t (f t)) xs) (picked f xs)
    where
      go : (a : Surv P) → f x ≡ a → (o : Surv P) (r : Surv ℕ) → Picked f xs o r → Picked f (x ∷ xs) (better a o) (better (tag x a) r)
      go absent e o r k = picked_more f x xs o r k
      go (alive w p) e absent absent k = (refl, inl refl, e)
      go (alive w p) e absent (alive v t) k = absurd k
      go (alive w p) e (alive v q) absent k = absurd k
      go (alive w p) e (alive v q) (alive u t) k =
          subst (λ (n : ℕ). Picked f (x ∷ xs) (keep (ltb v w) (alive w p) (alive v q)) (keep (ltb n w) (alive w x) (alive u t))) k.0
          (picked-two f x xs w v u t p q e k (ltb v w))

  -- what is chosen stands at the state chosen by the sums
  pub choose-at : (f : ℕ → Surv P) (xs : List ℕ) (w : ℕ) (p : P) → choose f xs ≡ alive w p →
      let t : ℕ = state_of (choose (λ t. tag t (f t)) xs) in In t xs × (f t ≡ alive w p)
  choose-at f xs w p e = go (choose f xs) (choose (λ t. tag t (f t)) xs) (picked f xs) e
    where
      go : (o : Surv P) (r : Surv ℕ) → Picked f xs o r → o ≡ alive w p → In (state_of r) xs × (f (state_of r) ≡ alive w p)
      go absent absent k e = absurd (absent-alive e)
      go absent (alive v t) k e = absurd k
      go (alive v q) absent k e = absurd k
      go (alive v q) (alive u t) k e = (k.1, k.2 ∙ e)

  -- the sum chosen is the same
  pub choose-bare : (f : ℕ → Surv P) (xs : List ℕ) → bare (choose f xs) ≡ bare (choose (λ t. tag t (f t)) xs)
  choose-bare f xs = go (choose f xs) (choose (λ t. tag t (f t)) xs) (picked f xs)
    where
      go : (o : Surv P) (r : Surv ℕ) → Picked f xs o r → bare o ≡ bare r
      go absent absent k = refl
      go absent (alive v t) k = absurd k
      go (alive w p) absent k = absurd k
      go (alive w p) (alive v t) k = ap (λ (n : ℕ). alive n tt) k.0

  -- ── one state more, as a loop takes it ──
  better-absent : (a : Surv P) → better a absent ≡ a
  unfolding better
  better-absent absent = refl
  better-absent (alive w p) = refl

  better-three : (w v u : ℕ) (p q r : P) (b₁ b₂ : Bool) → ltb v w ≡ b₁ → ltb u v ≡ b₂ →
      better (keep b₁ (alive w p) (alive v q)) (alive u r) ≡ better (alive w p) (keep b₂ (alive v q) (alive u r))
  unfolding better
  better-three w v u p q r true true h k = rw (k, lt-ltb u w (omega (arith, ltb-true v w h, ltb-true u v k)))
  better-three w v u p q r true false h k = rw (k, h)
  better-three w v u p q r false true h k = refl
  better-three w v u p q r false false h k = rw (h, le-ltb u w (omega (arith, ltb-false v w h, ltb-false u v k)))

  better-assoc : (a b c : Surv P) → better (better a b) c ≡ better a (better b c)
  unfolding better
  better-assoc absent b c = refl
  better-assoc (alive w p) absent c = refl
  better-assoc (alive w p) (alive v q) absent = better-absent (keep (ltb v w) (alive w p) (alive v q))
  better-assoc (alive w p) (alive v q) (alive u r) = better-three w v u p q r (ltb v w) (ltb u v) refl refl

  pub choose-snoc : (f : ℕ → Surv P) (xs : List ℕ) (x : ℕ) → choose f (xs ++ (x ∷ [])) ≡ better (choose f xs) (f x)
  unfolding choose better
  choose-snoc f [] x = better-absent (f x)
  choose-snoc f (y ∷ ys) x = ap (better (f y)) (choose-snoc f ys x) ∙ sym (better-assoc (f y) (choose f ys) (f x))
