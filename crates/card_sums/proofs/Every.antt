-- A test at every number below another, number by number: how a loop goes through it, and what it says.
--   every-none, every-next, every-ends   how a loop begins that keeps what the test says so far, goes on by a number, and ends
--   every_more, every-fails   one number more at which it passes, one at which it fails
--   every-all, all-every      what the whole test says of each number, and what each number says of it
use mathlib.Core.Path.{◌≡◌, refl, sym, ap, ap₂, ◌∙◌}
use mathlib.Core.Bool.{Bool, true, false, ◌&&◌}
use Prim.Native.Nat.{ℕ, zero, suc, ◌+◌, ◌<◌}
use native.Mathlib.Decide.{ℕ_discrete}
use native.Mathlib.Numerals.{add-one}
use native.Mathlib.Omega.{arith}
use Rattle.lists.proofs.UpTo.{and_both}
use Rattle.card_sums.specs.Every.{every_below}

module _ (f : ℕ → Bool) where
  pub every-none : true ≡ every_below f 0
  unfolding every_below
  every-none = refl

  pub every_more : (i : ℕ) → true ≡ every_below f i → f i ≡ true → true ≡ every_below f (i + 1)
  unfolding every_below
  every_more i e h = sym (ap (every_below f) (add-one i) ∙ ap₂ (λ (a b : Bool). a && b) (sym e) h)

  pub every-fails : (n i : ℕ) → i < n → f i ≡ false → every_below f n ≡ false
  unfolding every_below
  every-fails zero i h e = absurd (omega arith)
  every-fails (suc n) i h e = go (ℕ_discrete i n) (λ l. every-fails n i l e)
    where
      and-false : (a : Bool) → (a && false) ≡ false
      and-false true = refl
      and-false false = refl

      go : Dec (i ≡ n) → (i < n → every_below f n ≡ false) → (every_below f n && f n) ≡ false
      go (yes z) below = ap (λ (b : Bool). every_below f n && b) (ap f (sym z) ∙ e) ∙ and-false (every_below f n)
      go (no z) below = ap (λ (b : Bool). b && f n) (below (omega arith))

  pub every-next : (i : ℕ) {b r : Bool} → b ≡ every_below f i → r ≡ f i → (b && r) ≡ every_below f (i + 1)
  unfolding every_below
  every-next i e h = ap₂ (λ (a b : Bool). a && b) e h ∙ ap (every_below f) (sym (add-one i))

  pub every-ends : (n i : ℕ) {b : Bool} → i ≡ n → b ≡ every_below f i → b ≡ every_below f n
  every-ends n i z e = e ∙ ap (every_below f) z

  pub every-all : (n : ℕ) → every_below f n ≡ true → (i : ℕ) → i < n → f i ≡ true
  unfolding every_below
  every-all zero e i h = absurd (omega arith)
  every-all (suc n) e i h = go (ℕ_discrete i n) (every-all n (and_both (every_below f n) (f n) e).0 i)
    where
      go : Dec (i ≡ n) → (i < n → f i ≡ true) → f i ≡ true
      go (yes z) below = ap f z ∙ (and_both (every_below f n) (f n) e).1
      go (no z) below = below (omega arith)

  pub all-every : (n : ℕ) → ((i : ℕ) → i < n → f i ≡ true) → every_below f n ≡ true
  unfolding every_below
  all-every zero h = refl
  all-every (suc n) h = ap₂ (λ (a b : Bool). a && b) (all-every n (λ i l. h i (omega arith))) (h n (omega arith))
