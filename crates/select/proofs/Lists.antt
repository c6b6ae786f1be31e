-- Lists laid out by a function.
--   range_length, range_at     f at the n numbers from a on: how many, and what stands at a place
--   sixteen-at, sixteen-same   f at the states; two that are equal there
--   sixteen-made               what a table of sixteen is
--   sixteen-most               a bound that also holds past them
--   same-front                 two lists with the same front and the same rest
use mathlib.Core.Path.{◌≡◌, refl, sym, ap, ap₂, ◌∙◌}
use mathlib.Core.List.{List, ◌∷◌, map}
use Prim.Native.Nat.{ℕ, zero, suc, ◌+◌, ◌≤◌, ◌<◌}
use native.Mathlib.Omega.{arith}
use native.Mathlib.Decide.{dec_lt}
use lib.ListN.{length, get_or, get_or-eq_default}
use lib.Seq.{ext_get_or}
use Rattle.lists.specs.Tabled.{tabled}
use Rattle.trellis.specs.Search.{range}
use Rattle.select.specs.Select.{sixteen}

-- ── laid out by a function ──
module _ {A : Type 0} (f : ℕ → A) where
  pub range_length : (a n : ℕ) → length (map f (range a n)) ≡ n
  unfolding range
  range_length a zero = refl
  range_length a (suc n) = ap suc (range_length (suc a) n)

  pub range_at : (a n i : ℕ) (d : A) → i < n → get_or (map f (range a n)) i d ≡ f (a + i)
  unfolding range
  range_at a zero i d h = absurd (omega arith)
  range_at a (suc n) zero d h = ap f (let e : a ≡ a + 0 = omega arith in e)
  range_at a (suc n) (suc i) d h = range_at (suc a) n i d (omega arith) ∙ ap f (let e : suc a + i ≡ a + suc i = omega arith in e)

pub sixteen-at : (f : ℕ → ℕ) (s : ℕ) → s < 16 → get_or (sixteen f) s 0 ≡ f s
unfolding range
sixteen-at f s h = range_at f 0 16 s 0 h ∙ ap f (let e : 0 + s ≡ s = omega arith in e)

pub sixteen-same : (f g : ℕ → ℕ) → ((s : ℕ) → s < 16 → f s ≡ g s) → sixteen f ≡ sixteen g
sixteen-same f g h = ext_get_or 0 (sixteen f) (sixteen g) refl (λ s k. sixteen-at f s k ∙ h s k ∙ sym (sixteen-at g s k))

pub sixteen-made : (f : ℕ → ℕ) → tabled f 16 ≡ sixteen f
unfolding tabled
sixteen-made f = refl

-- 0 past them
pub sixteen-most : (f : ℕ → ℕ) (m : ℕ) → ((s : ℕ) → f s ≤ m) → (s : ℕ) → get_or (sixteen f) s 0 ≤ m
sixteen-most f m h s = go (dec_lt s 16)
  where
    go : Dec (s < 16) → get_or (sixteen f) s 0 ≤ m
    go (yes g) = omega (arith, sixteen-at f s g, h s)
    go (no g) = omega (arith, get_or-eq_default (sixteen f) 0 {n = s} (omega arith))

pub same-front : {x y : ℕ} {l m : List ℕ} → x ≡ y → l ≡ m → ◌≡◌ {A = List ℕ} (x ∷ l) (y ∷ m)
same-front e f = ap₂ (λ (a : ℕ) (k : List ℕ). a ∷ k) e f
