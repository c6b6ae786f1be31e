-- Rows by label and by subset: what stands at an index, and what holds at every index, past a row's end too.
--   four-at, eight-at       a row of labels at a label, a row of subsets at a subset
--   four-each, eight-each   what holds of every value of the function, and of 0, holds at every index of its row
use mathlib.Core.Path.{◌≡◌, refl}
use mathlib.Core.List.{List, [], ◌∷◌}
use Prim.Native.Nat.{ℕ, zero, suc, ◌<◌}
use native.Mathlib.Omega.{arith}
use lib.ListN.{get_or}
use Rattle.wei.specs.State.{subset_of}
use Rattle.subset_types.specs.Types.{eight}
use Rattle.distance.specs.Found.{four}

pub four-at : (f : ℕ → ℕ) (l : ℕ) → l < 4 → get_or (four f) l 0 ≡ f l
four-at f zero h = refl
four-at f (suc zero) h = refl
four-at f (suc (suc zero)) h = refl
four-at f (suc (suc (suc zero))) h = refl
four-at f (suc (suc (suc (suc l)))) h = absurd (omega arith)

-- what holds at all three bits
bits : (P : ℕ → ℕ → ℕ → Type 0) → P 0 0 0 × P 0 0 1 × P 0 1 0 × P 0 1 1 × P 1 0 0 × P 1 0 1 × P 1 1 0 × P 1 1 1 → (a b c : ℕ) → a < 2 → b < 2 → c < 2 → P a b c
bits P t a b c ha hb hc =
    bit (λ a. P a b c)
    (bit (λ b. P 0 b c) (bit (P 0 0) t.0 t.1 c hc) (bit (P 0 1) t.2 t.3 c hc) b hb)
    (bit (λ b. P 1 b c) (bit (P 1 0) t.4 t.5 c hc) (bit (P 1 1) t.6 t.7 c hc) b hb)
    a ha
  where
    bit : (Q : ℕ → Type 0) → Q 0 → Q 1 → (j : ℕ) → j < 2 → Q j
    bit Q p q zero h = p
    bit Q p q (suc zero) h = q
    bit Q p q (suc (suc j)) h = absurd (omega arith)

pub eight-at : (f : ℕ → ℕ → ℕ → ℕ) (y0 i1 i2 : ℕ) → y0 < 2 → i1 < 2 → i2 < 2 → get_or (eight f) (subset_of y0 i1 i2) 0 ≡ f y0 i1 i2
eight-at f = bits (λ y0 i1 i2. get_or (eight f) (subset_of y0 i1 i2) 0 ≡ f y0 i1 i2) (refl, refl, refl, refl, refl, refl, refl, refl)

module _ (P : ℕ → Type 0) (z : P 0) where
  abbrev Each : List ℕ → Type 0
  Each [] = Unit {0}
  Each (x ∷ xs) = P x × Each xs

  each : (xs : List ℕ) → Each xs → (i : ℕ) → P (get_or xs i 0)
  each [] t i = z
  each (x ∷ xs) t zero = t.0
  each (x ∷ xs) t (suc i) = each xs t.1 i

  pub four-each : (f : ℕ → ℕ) → ((l : ℕ) → P (f l)) → (i : ℕ) → P (get_or (four f) i 0)
  four-each f p = each (four f) (p 0, (p 1, (p 2, (p 3, tt))))

  pub eight-each : (f : ℕ → ℕ → ℕ → ℕ) → ((y0 i1 i2 : ℕ) → P (f y0 i1 i2)) → (i : ℕ) → P (get_or (eight f) i 0)
  eight-each f p = each (eight f) (p 0 0 0, (p 0 0 1, (p 0 1 0, (p 0 1 1, (p 1 0 0, (p 1 0 1, (p 1 1 0, (p 1 1 1, tt))))))))
