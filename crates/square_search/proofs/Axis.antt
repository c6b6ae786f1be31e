-- The nearest place on an axis, by rounding and clamping: no place of the label is nearer, and of equals it has the smaller field.
--   place_in         it is one of the label's places
--   no-nearer        none is nearer
--   first-of-equals  one as near has no smaller field
use mathlib.Core.Path.{◌≡◌, refl}
use mathlib.Core.Bool.{Bool, true, false, cond}
use Prim.Native.Nat.{ℕ, suc, ◌+◌, ◌-◌, ◌*◌, ◌/◌, ◌^◌, ◌≤◌, ◌<◌}
use native.Mathlib.Decide.{ℕ_discrete}
use native.Mathlib.Omega.{arith}
use borrow.Author.Tests.{ltb-true, ltb-false, eqb-true, eqb-false}
use lib.Dec.{ltb, eqb}
use lib.Pow.{pow_pos}
use Rattle.square_search.specs.Axis.{rounded_of, clamped_of, lowest, nearest_place, field_at, far}
use Rattle.square_search.proofs.Places.{field_is}

-- how rounding went
data Rounded (g q : ℕ) : Type 0 where
  middle : g ≡ 8448 → q ≡ 17 → Rounded g q
  other : (g ≡ 8448 → ⊥) → 512 * q ≤ g + 255 → g + 255 < 512 * q + 512 → Rounded g q

rounded-is : (g : ℕ) → Rounded g (rounded_of g)
unfolding rounded_of
rounded-is g = go (eqb g 8448) refl
  where
    go : (b : Bool) → eqb g 8448 ≡ b → Rounded g (cond b 17 ((g + 255) / 512))
    go true e = middle (eqb-true g 8448 e) refl
    go false e = other (eqb-false g 8448 e) (omega arith) (omega arith)

-- how clamping went
data Clamped (q lo hi t : ℕ) : Type 0 where
  under : q < lo → t ≡ lo → Clamped q lo hi t
  over : lo ≤ q → hi < q → t ≡ hi → Clamped q lo hi t
  inside : lo ≤ q → q ≤ hi → t ≡ q → Clamped q lo hi t

clamped-is : (q lo hi : ℕ) → Clamped q lo hi (clamped_of q lo hi)
unfolding clamped_of
clamped-is q lo hi = go (ltb q lo) refl (ltb hi q) refl
  where
    go : (a : Bool) → ltb q lo ≡ a → (b : Bool) → ltb hi q ≡ b → Clamped q lo hi (cond a lo (cond b hi q))
    go true e b f = under (ltb-true q lo e) refl
    go false e true f = over (ltb-false q lo e) (ltb-true hi q f) refl
    go false e false f = inside (ltb-false q lo e) (ltb-false hi q f) refl

-- two places as near: the same, the lower of two neighbours, or 17 before 16
data Tie (t k : ℕ) : Type 0 where
  same : t ≡ k → Tie t k
  lower : suc t ≡ k → (t ≡ 16 → ⊥) → Tie t k
  centre : t ≡ 17 → k ≡ 16 → Tie t k

within : {q lo hi t : ℕ} → lo ≤ hi → Clamped q lo hi t → (lo ≤ t) × (t ≤ hi)
within h (under a b) = (omega arith, omega arith)
within h (over a b c) = (omega arith, omega arith)
within h (inside a b c) = (omega arith, omega arith)

module _ {g q lo hi t : ℕ} (k : ℕ) (i : lo ≤ k) (j : k ≤ hi) where
  nearest : Rounded g q → Clamped q lo hi t → far g t ≤ far g k
  nearest (middle a b) (under c d) = omega arith
  nearest (middle a b) (over c d e) = omega arith
  nearest (middle a b) (inside c d e) = omega arith
  nearest (other a b f) (under c d) = omega arith
  nearest (other a b f) (over c d e) = omega arith
  nearest (other a b f) (inside c d e) = omega arith

  tie : Rounded g q → Clamped q lo hi t → far g t ≡ far g k → Tie t k
  tie (middle a b) (under c d) z = same (omega arith)
  tie (middle a b) (over c d e) z = same (omega arith)
  tie (middle a b) (inside c d e) z = go (ℕ_discrete t k)
    where
      go : Dec (t ≡ k) → Tie t k
      go (yes y) = same y
      go (no n) = centre (omega arith) (omega arith)
  tie (other a b f) (under c d) z = same (omega arith)
  tie (other a b f) (over c d e) z = same (omega arith)
  tie (other a b f) (inside c d e) z = go (ℕ_discrete t k)
    where
      go : Dec (t ≡ k) → Tie t k
      go (yes y) = same y
      go (no n) = lower (omega arith) (λ s. a (omega arith))

-- fields rise with the places below 17, and again from there on
data Half (s t f : ℕ) : Type 0 where
  left : t < 17 → f + 17 ≡ t + s → Half s t f
  right : 17 ≤ t → f + 17 ≡ t → Half s t f

half_is : (s t f : ℕ) → f + 17 ≡ cond (ltb t 17) (t + s) t → Half s t f
half_is s t f = go (ltb t 17) refl
  where
    go : (b : Bool) → ltb t 17 ≡ b → f + 17 ≡ cond b (t + s) t → Half s t f
    go true e z = left (ltb-true t 17 e) z
    go false e z = right (ltb-false t 17 e) z

rising : {s t k f h : ℕ} → Half s t f → Half s k h → Tie t k → f ≤ h
rising (left a b) (left c d) (same e) = omega arith
rising (left a b) (right c d) (same e) = omega arith
rising (right a b) (left c d) (same e) = omega arith
rising (right a b) (right c d) (same e) = omega arith
rising (left a b) (left c d) (lower e n) = omega arith
rising (left a b) (right c d) (lower e n) = absurd (n (omega arith))
rising (right a b) (left c d) (lower e n) = omega arith
rising (right a b) (right c d) (lower e n) = omega arith
rising (left a b) x (centre e z) = omega arith
rising (right a b) x (centre e z) = omega arith

-- ---- the nearest of the label's places

module _ (m e g : ℕ) (a : m < 5) (b : e < 2) where
  abbrev lo : ℕ
  lo = lowest m e

  abbrev hi : ℕ
  hi = lowest m e + (2 ^ m - 1)

  ordered : lo ≤ hi
  ordered = omega arith

  clamping : Clamped (rounded_of g) lo hi (nearest_place m e g)
  unfolding nearest_place
  clamping = clamped-is (rounded_of g) lo hi

  pub place_in : (lowest m e ≤ nearest_place m e g) × (nearest_place m e g < lowest m e + 2 ^ m)
  place_in = let w = within ordered clamping in (w.0, omega (arith, w.1, pow_pos m))

  module _ (k : ℕ) (c : lowest m e ≤ k) (d : k < lowest m e + 2 ^ m) where
    top : k ≤ hi
    top = omega (arith, pow_pos m)

    pub no-nearer : far g (nearest_place m e g) ≤ far g k
    no-nearer = nearest k c top (rounded-is g) clamping

    pub first-of-equals : far g (nearest_place m e g) ≡ far g k → field_at m (nearest_place m e g) ≤ field_at m k
    first-of-equals z =
        let t = nearest_place m e g in
        rising (half_is (2 ^ m) t (field_at m t) (field_is m e t a b place_in.0 place_in.1))
        (half_is (2 ^ m) k (field_at m k) (field_is m e k a b c d))
        (tie k c top (rounded-is g) clamping z)
