-- What `round`, the library's one rounding to a float, does with a fraction n / d: where the floats are the whole numbers it is
-- `nearest_even`, and it never passes a whole number up to 2 ^ 24, which is a float itself. It leans on `lib.Ieee`, whose `round_mono`
-- says that the larger fraction rounds to no less.
--   round-to-whole   from 2 ^ 23 to 2 ^ 24 the result is the nearest whole number
--   round-at-least   of n / d from q on, the result is q or more in size, or infinite
--   round-at-most    of n / d up to q, it is q or less
use mathlib.Core.Path.{◌≡◌, refl, sym, ap, ◌∙◌, subst}
use Prim.Native.Nat.{ℕ, zero, suc, ◌-◌, ◌*◌, ◌/◌, ◌%◌, ◌^◌, ◌≤◌, ◌<◌, compare}
use native.Mathlib.Nat.{le_trans, le_of_eq, le_of_lt, lt_of_lt_of_le, lt_of_le_of_lt, lt_of_not-le, not-le_of_lt, le_antisymm}
use native.Mathlib.Nat.{mul-one, mul_comm, mul_assoc, mul_right_comm, mul-pos, mul-le-mul_right, mul-lt-mul_of_pos_right, div-lt_iff_lt-mul, le-div_iff_mul-le, eq_of_mul-eq-mul_right}
use mathlib.Core.Bool.{Bool, true, false, ◌&&◌, ◌||◌, cond, true≢false}
use lib.IntN.{ℤ}
use lib.Dec.{T, eqb, ltb, eqb→eq, ltb→lt, lit<}
use lib.Pow.{pow_pos, pow_mono}
use lib.Ieee.{Float, nan, inf, fin, binary32, up, down, size, odd, units, round, le}
use lib.Ieee.Digits.{size-lt, size-le}
use lib.Ieee.Fits.{and_l, core, round_is, nearest-le, down_pos}
use lib.Ieee.Exact.{HasValue, units_val}
use lib.Ieee.Nearest.{closest, closest_same}
use lib.Ieee.Order.{round_mono, transfer}
use lib.Ieee.Back.{round_whole}
use Rattle.samples.specs.Nearest.{nearest_even}
use Rattle.samples.proofs.Nearest.{nearest-closest}

-- ---- from 2 ^ 23 up to 2 ^ 24 the floats are the whole numbers
size_is : (n : ℕ) → 2 ^ 172 ≤ n → n < 2 ^ 173 → size n ≡ 173
size_is n h k = le_antisymm (size-le n 173 k) (lt_of_not-le (λ (g : size n ≤ 172). not-le_of_lt (lt_of_lt_of_le (size-lt n) (pow_mono g)) h))

in-units : (x : Float) (s : Bool) (q : ℕ) → HasValue x s (q * 2 ^ 149) (2 ^ 149) → HasValue x s q 1
in-units nan s q v = v
in-units (inf t) s q v = v
in-units (fin t m e) s q v = (v.0, mul-one (m * up e) ∙ eq_of_mul-eq-mul_right (2 ^ 149) (pow_pos 149) (m * up e) (q * down e) (v.1 ∙ mul_right_comm q (2 ^ 149) (down e)))

pub round-to-whole : (n d : ℕ) → 0 < d → 2 ^ 23 * d ≤ n → n < 2 ^ 24 * d → HasValue (round binary32 false n d) false (nearest_even n d) 1
round-to-whole n d D h k =
    let N = n * 2 ^ 149 in
    let q = closest n d in
    let digits : size (N / d) ≡ 173 = size_is (N / d)
    ((le-div_iff_mul-le D).1 (le_trans (le_of_eq (mul_right_comm (2 ^ 23) (2 ^ 149) d)) (mul-le-mul_right (2 ^ 149) h)))
    ((div-lt_iff_lt-mul D).1 (lt_of_lt_of_le (mul-lt-mul_of_pos_right k (pow_pos 149)) (le_of_eq (mul_right_comm (2 ^ 24) d (2 ^ 149))))) in
    let unit : closest N (d * 2 ^ 149) ≡ q = closest_same N (d * 2 ^ 149) n d (mul-pos D (pow_pos 149)) D (mul_assoc n (2 ^ 149) d ∙ ap (λ (x : ℕ). n * x) (mul_comm (2 ^ 149) d)) in
    let is : round binary32 false n d ≡ units binary32 false q 149 =
    round_is binary32 false n d ∙ ap (λ (x : ℕ). core binary32 false N d (x - 24)) digits ∙ ap (λ (x : ℕ). units binary32 false x 149) unit in
    let small : q ≤ 2 ^ 24 = le_trans (nearest-le (n / d) (compare (n % d * 2) d)) ((div-lt_iff_lt-mul D).1 k) in
    let fine : q * 2 ^ 149 < 2 ^ 277 = lt_of_le_of_lt (mul-le-mul_right (2 ^ 149) small) (lit< tt) in
    subst (λ (r : ℕ). HasValue (round binary32 false n d) false r 1) (nearest-closest n d)
    (in-units (round binary32 false n d) false q
    (subst (λ (x : Float). HasValue x false (q * 2 ^ 149) (2 ^ 149)) (sym is) (units_val binary32 false q 149 fine)))

-- ---- the sign goes through `round` untouched
abbrev with_sign : Bool → Float → Float
with_sign s nan = nan
with_sign s (inf t) = inf s
with_sign s (fin t m e) = fin s m e

units-signed : (s : Bool) (q k : ℕ) → units binary32 s q k ≡ with_sign s (units binary32 false q k)
unfolding units odd
units-signed s q k = go (ltb (q * 2 ^ k) (2 ^ 277)) q
  where
    go : (b : Bool) (q : ℕ) → cond b (odd 25 s q k 149) (inf s) ≡ with_sign s (cond b (odd 25 false q k 149) (inf false))
    go true zero = refl
    go true (suc q) = refl
    go false q = refl

round-signed : (s : Bool) (n d : ℕ) → round binary32 s n d ≡ with_sign s (round binary32 false n d)
round-signed s n d =
    let k = size (n * 2 ^ 149 / d) - 24 in
    round_is binary32 s n d ∙ units-signed s (closest (n * 2 ^ 149) (d * 2 ^ k)) k ∙ ap (with_sign s) (sym (round_is binary32 false n d))

-- ---- bounds
abbrev pub AtLeast : Bool → ℕ → Float → Type 0
AtLeast s q nan = ⊥
AtLeast s q (inf t) = t ≡ s
AtLeast s q (fin t m e) = (t ≡ s) × (q * down e ≤ m * up e)

abbrev pub AtMost : ℕ → Float → Type 0
AtMost q nan = ⊥
AtMost q (inf t) = ⊥
AtMost q (fin t m e) = m * up e ≤ q * down e

-- what `le` tests of two sizes a and b of the same sign, y being its test for equality
pub tested_le : (a b : ℕ) (y : Bool) → (T y → a ≡ b) → T (ltb a b || (y && true)) → a ≤ b
tested_le a b y g = go (ltb a b) (ltb→lt a b)
  where
    go : (x : Bool) → (T x → a < b) → T (x || (y && true)) → a ≤ b
    go true f u = le_of_lt (f tt)
    go false f u = le_of_eq (g (and_l y true u))

sizes-le : (m n : ℕ) (e d : ℤ) → T (le (fin false m e) (fin false n d)) → m * up e * down d ≤ n * up d * down e
unfolding le
sizes-le m n e d = tested_le (m * up e * down d) (n * up d * down e) (eqb (m * up e * down d) (n * up d * down e)) (eqb→eq (m * up e * down d) (n * up d * down e))

-- a float x that is q, against another
module _ (q : ℕ) where
  above : (s : Bool) (x y : Float) → HasValue x false q 1 → T (le x (with_sign false y)) → AtLeast s q (with_sign s y)
  unfolding le
  above s nan y v t = absurd v
  above s (inf u) y v t = absurd v
  above s (fin true m e) y v t = absurd (true≢false v.0)
  above s (fin false m e) nan v t = absurd t
  above s (fin false m e) (inf u) v t = refl
  above s (fin false m e) (fin u n d) v t =
      let h = transfer q (n * up d) 1 (down d) (m * up e) (n * up d) (down e) (down d) (down_pos e) (down_pos d) (sym v.1) refl (sizes-le m n e d t) in
      (refl, rw mul-one at h)

  below : (x y : Float) → HasValue x false q 1 → T (le (with_sign false y) x) → AtMost q (with_sign false y)
  unfolding le
  below nan y v t = absurd v
  below (inf u) y v t = absurd v
  below (fin true m e) y v t = absurd (true≢false v.0)
  below (fin false m e) nan v t = absurd t
  below (fin false m e) (inf u) v t = absurd t
  below (fin false m e) (fin u n d) v t =
      let h = transfer (n * up d) q (down d) 1 (n * up d) (m * up e) (down d) (down e) (down_pos d) (down_pos e) refl (sym v.1) (sizes-le n m d e t) in
      rw mul-one at h

pub round-at-least : (s : Bool) (n d q : ℕ) → 0 < d → q ≤ 2 ^ 24 → q * d ≤ n → AtLeast s q (round binary32 s n d)
round-at-least s n d q D Q h =
    subst (AtLeast s q) (sym (round-signed s n d))
    (above q s (round binary32 false q 1) (round binary32 false n d) (round_whole binary32 false q Q)
    (subst (λ (x : Float). T (le (round binary32 false q 1) x)) (round-signed false n d) (round_mono binary32 q 1 n d (lit< tt) D (rw mul-one h))))

pub round-at-most : (n d q : ℕ) → 0 < d → q ≤ 2 ^ 24 → n ≤ q * d → AtMost q (round binary32 false n d)
round-at-most n d q D Q h =
    subst (AtMost q) (sym (round-signed false n d))
    (below q (round binary32 false q 1) (round binary32 false n d) (round_whole binary32 false q Q)
    (subst (λ (x : Float). T (le x (round binary32 false q 1))) (round-signed false n d) (round_mono binary32 n d q 1 D (lit< tt) (rw mul-one h))))
