-- Whether two symbols are one, decided number by number.
--   numbers c        the six numbers of a symbol
--   same_list l m     two lists of numbers are one, or are not
--   same_symbol c d   two symbols are one, or are not
use Rattle.std.specs.Prelude.{◌≡◌, refl, List, [], ◌∷◌, ℕ}
use Rattle.std.proofs.Common.{ap, arith}
use Rattle.std.proofs.Math.Decide.{ℕ_discrete}
use Rattle.wei.specs.Symbol.{Symbol}

abbrev pub numbers : Symbol → List ℕ
numbers c = c.y0 ∷ c.i1 ∷ c.i2 ∷ c.i3 ∷ c.w1 ∷ c.w2 ∷ []

pub numbers-fix : (c d : Symbol) → numbers c ≡ numbers d → c ≡ d
numbers-fix c d e =
    let z₀ : c.y0 ≡ d.y0 = cc in
    let z₁ : c.i1 ≡ d.i1 = cc in
    let z₂ : c.i2 ≡ d.i2 = cc in
    let z₃ : c.i3 ≡ d.i3 = cc in
    let z₄ : c.w1 ≡ d.w1 = cc in
    let z₅ : c.w2 ≡ d.w2 = cc in
    λ i. record { y0 = z₀ i; i1 = z₁ i; i2 = z₂ i; i3 = z₃ i; w1 = z₄ i; w2 = z₅ i }

unfoldable pub same_list : (l m : List ℕ) → Dec (l ≡ m)
unfolding ℕ_discrete
same_list [] [] = yes refl
same_list [] (b ∷ m) = no (λ e. let z : ◌≡◌ {A = ℕ} 0 1 = cc in omega arith)
same_list (a ∷ l) [] = no (λ e. let z : ◌≡◌ {A = ℕ} 0 1 = cc in omega arith)
same_list (a ∷ l) (b ∷ m) = go (ℕ_discrete a b) (same_list l m)
  where
    go : Dec (a ≡ b) → Dec (l ≡ m) → Dec (◌≡◌ {A = List ℕ} (a ∷ l) (b ∷ m))
    go (yes e) (yes f) = yes (cc)
    go (yes e) (no f) = no (λ z. f (cc))
    go (no e) d = no (λ z. e (cc))

unfoldable pub same_symbol : (c d : Symbol) → Dec (c ≡ d)
unfolding same_list
same_symbol c d = go (same_list (numbers c) (numbers d))
  where
    go : Dec (numbers c ≡ numbers d) → Dec (c ≡ d)
    go (yes e) = yes (numbers-fix c d e)
    go (no e) = no (λ z. e (ap numbers z))
