-- The places of a label on an axis, and the bits of a coordinate that stands there, from tests that the checker computes at every width.
--   place_of m k       the place of the coordinate with the bits k
--   place-low, place-high   it is one of the label's places
--   place-field       its field is the bits without the label's
--   place-back        and each of the label's places is that of its field and the label's bit
--   place-apart       how far a received coordinate is from it
--   field_is          fields rise with the places below 17, and again from there on
--   spread-le, spread-small, spread-within, spread-step   spread bits rise with the bits
use mathlib.Core.Path.{◌≡◌, refl, ap, subst, ◌∙◌}
use mathlib.Core.Bool.{Bool, cond}
use Prim.Native.Nat.{ℕ, suc, ◌+◌, ◌-◌, ◌*◌, ◌/◌, ◌%◌, ◌^◌, ◌≤◌, ◌<◌}
use native.Mathlib.Nat.{mod-lt}
use native.Mathlib.Omega.{arith}
use lib.Dec.{T, leb, ltb, eqb, leb→le, eqb→eq}
use lib.IntN.{ℤ, pos, nat_abs, ◌-ℤ◌}
use lib.Pow.{pow_pos}
use Rattle.wei.proofs.Finite.{upto, at, equal1}
use Rattle.maps.specs.SquareBits.{spread, coordinate}
use Rattle.maps.proofs.SquareTests.{equal, less, same_z, equal_z}
use Rattle.square_search.specs.Found.{apart}
use Rattle.square_search.specs.Axis.{origin_of, between_of, lowest, field_at, far, far_squared}
use Rattle.square_search.proofs.Signed.{moved, origin-in}

abbrev side : ℕ → ℕ
side m = 2 ^ (m + 1)

-- coordinates whose bits are below 2^m are above 0
unfoldable pub place_of : ℕ → ℕ → ℕ
place_of m k = cond (ltb k (2 ^ m)) (17 + k / 2) (17 + k / 2 - 2 ^ m)

pub place-low : (m k : ℕ) → m < 5 → k < 2 ^ (m + 1) → lowest m (k % 2) < suc (place_of m k)
unfolding place_of
place-low = less side (λ m k. lowest m (k % 2)) (λ m k. suc (place_of m k)) tt

pub place-high : (m k : ℕ) → m < 5 → k < 2 ^ (m + 1) → place_of m k < lowest m (k % 2) + 2 ^ m
unfolding place_of
place-high = less side place_of (λ m k. lowest m (k % 2) + 2 ^ m) tt

pub place-field : (m k : ℕ) → m < 5 → k < 2 ^ (m + 1) → field_at m (place_of m k) ≡ k / 2
unfolding place_of
place-field = equal side (λ m k. field_at m (place_of m k)) (λ m k. k / 2) tt

place_is : (m k : ℕ) → m < 5 → k < 2 ^ (m + 1) → coordinate m k ≡ pos (4 * place_of m k + 2 * (k % 2)) -ℤ pos 67
unfolding place_of coordinate same_z
place_is = equal_z side coordinate (λ m k. pos (4 * place_of m k + 2 * (k % 2)) -ℤ pos 67) tt

pub place-apart : (m k : ℕ) (r : ℤ) → m < 5 → k < 2 ^ (m + 1) → nat_abs r ≤ 8192 → apart r (coordinate m k) ≡ far_squared (origin_of r - 256 * (k % 2)) (place_of m k)
place-apart m k r g h i =
    let t = place_of m k in
    let o = origin-in r i in
    let e : between_of (origin_of r) (128 * (4 * t + 2 * (k % 2))) ≡ far (origin_of r - 256 * (k % 2)) t = omega (arith, o.0) in
    ap (apart r) (place_is m k g h) ∙ ap (λ (n : ℕ). n * n) (moved r (4 * t + 2 * (k % 2)) i ∙ e)

-- ---- over all places of a label

module _ (f g : ℕ → ℕ → ℕ → ℕ) where
  agree : ℕ → ℕ → ℕ → Bool
  agree m e i = eqb (f m e (lowest m e + i)) (g m e (lowest m e + i))

  abbrev Agree : Type 0
  Agree = T (upto 5 (λ m. upto 2 (λ e. upto (2 ^ m) (agree m e))))

  placed : Agree → (m e t : ℕ) → m < 5 → e < 2 → lowest m e ≤ t → t < lowest m e + 2 ^ m → f m e t ≡ g m e t
  unfolding agree
  placed y m e t a b c d =
      let i = t - lowest m e in
      let s = at (2 ^ m) (agree m e) (at 2 (λ e. upto (2 ^ m) (agree m e)) (at 5 (λ m. upto 2 (λ e. upto (2 ^ m) (agree m e))) y m a) e b) i (omega arith) in
      let z : lowest m e + i ≡ t = omega arith in
      subst (λ (n : ℕ). f m e n ≡ g m e n) z (eqb→eq (f m e (lowest m e + i)) (g m e (lowest m e + i)) s)

pub place-back : (m e t : ℕ) → m < 5 → e < 2 → lowest m e ≤ t → t < lowest m e + 2 ^ m → place_of m (2 * field_at m t + e) ≡ t
unfolding place_of agree
place-back = placed (λ m e t. place_of m (2 * field_at m t + e)) (λ m e t. t) tt

pub field_is : (m e t : ℕ) → m < 5 → e < 2 → lowest m e ≤ t → t < lowest m e + 2 ^ m → field_at m t + 17 ≡ cond (ltb t 17) (t + 2 ^ m) t
unfolding agree
field_is = placed (λ m e t. field_at m t + 17) (λ m e t. cond (ltb t 17) (t + 2 ^ m) t) tt

pub field_below : (m t : ℕ) → field_at m t < 2 ^ m
field_below m t = mod-lt (t + 15) (pow_pos m)

-- ---- spread bits

pub spread-step : (k : ℕ) → k < 32 → spread k ≡ k % 2 + 4 * spread (k / 2)
unfolding spread
spread-step = equal1 32 spread (λ k. k % 2 + 4 * spread (k / 2)) tt

pub spread-within : (m k : ℕ) → m < 5 → k < 2 ^ m → 3 * spread k < 4 ^ m
unfolding spread
spread-within = less (λ m. 2 ^ m) (λ m k. 3 * spread k) (λ m k. 4 ^ m) tt

spread-test : T (upto 16 (λ i. upto 16 (λ j. leb (spread i) (spread (i + j)))))
unfolding spread
spread-test = tt

pub spread-le : (i k : ℕ) → i ≤ k → k < 16 → spread i ≤ spread k
spread-le i k h g =
    let t = at 16 (λ j. leb (spread i) (spread (i + j))) (at 16 (λ i. upto 16 (λ j. leb (spread i) (spread (i + j)))) spread-test i (omega arith)) (k - i) (omega arith) in
    let e : i + (k - i) ≡ k = omega arith in
    subst (λ (n : ℕ). spread i ≤ spread n) e (leb→le (spread i) (spread (i + (k - i))) t)

pub spread-small : (k : ℕ) → k < 16 → spread k ≤ 85
unfolding spread
spread-small k h = let e : spread 15 ≡ 85 = refl in omega (arith, spread-le k 15 (omega arith) (omega arith))
