-- What the three float operations of `hear_coordinate` make of a float, against what is to be heard of it. It joins proofs/Scaling.antt
-- and proofs/Shifting.antt with proofs/Value.antt.
--   converted v   the float that they make of v
--   Outcome w g   w is a whole number in range and g gives it, or w lies outside and g is refused
--   outcome       one of the two holds of `converted v` and what is to be heard, for every v
use mathlib.Core.Path.{◌≡◌, sym, ap, ◌∙◌}
use Prim.Native.Nat.{ℕ, suc, ◌*◌, ◌≤◌, ◌<◌}
use native.Mathlib.Nat.{le_of_eq, le_trans, mul-one, lt_of_le_of_lt, lt_of_lt_of_le, lt_of_mul-lt-mul_right, mul_right_comm, mul-le-mul_right, mul-lt-mul_of_pos_right}
use native.Mathlib.Omega.{arith}
use mathlib.Core.Logic.{⊎_elim}
use mathlib.Core.Bool.{Bool, true, false, not}
use lib.IntN.{ℤ, pos, negsuc, nat_abs}
use lib.Dec.{T, ltb, ltb→lt, nltb→le}
use lib.Ieee.{Float, nan, inf, fin, binary32, up, down, add, sub, mul, of_int, of_bits, fits}
use lib.Ieee.Fits.{down_pos}
use lib.Ieee.Exact.{HasValue}
use lib.Ieee.Back.{round_whole}
use Rattle.samples.specs.Nearest.{nearest_even}
use Rattle.samples.specs.Given.{GivenCoordinate, done, refused}
use Rattle.samples.specs.Heard.{signed, in_range}
use Rattle.samples.proofs.Nearest.{nearest-same, nearest-le, nearest-ge}
use Rattle.samples.proofs.Rounding.{AtLeast}
use Rattle.samples.proofs.Scaling.{scale, scaled_exact, scaled-far}
use Rattle.samples.proofs.Shifting.{shifted, shifted-near, shifted-far}
use Rattle.samples.proofs.Value.{size-signed, out_of_range, range-cases, by_value}

abbrev pub converted : Float → Float
converted v = shifted (mul binary32 v scale)

-- ---- the two outcomes
abbrev pub Outside : Float → Type 0
Outside nan = Unit
Outside (inf s) = Unit
Outside (fin s m e) = 8193 * down e ≤ m * up e

pub data Outcome (w : Float) : GivenCoordinate → Type 0 where
  within : (z : ℤ) → nat_abs z ≤ 8192 → w ≡ of_int binary32 z → Outcome w (done z)
  outside : Outside w → Outcome w refused

near-value : (x : Float) (s : Bool) (a c : ℕ) → 0 < c → a < 4194304 * c → HasValue x s a c → shifted x ≡ of_int binary32 (signed s (nearest_even a c))
near-value nan s a c C h v = absurd v
near-value (inf t) s a c C h v = absurd v
near-value (fin t m e) s a c C h v =
    let n = m * up e in
    let d = down e in
    let below : n < 4194304 * d = lt_of_mul-lt-mul_right c (lt_of_le_of_lt (le_of_eq v.1) (lt_of_lt_of_le (mul-lt-mul_of_pos_right h (down_pos e)) (le_of_eq (mul_right_comm 4194304 c d)))) in
    shifted-near t m e below
    ∙ ap (λ (u : Bool). of_int binary32 (signed u (nearest_even n d))) v.0
    ∙ ap (λ (r : ℕ). of_int binary32 (signed s r)) (nearest-same n d a c (down_pos e) C v.1)

abbrev pub negative : ℤ → Bool
negative (pos n) = false
negative (negsuc n) = true

pub integer-value : (z : ℤ) → nat_abs z ≤ 16777216 → HasValue (of_int binary32 z) (negative z) (nat_abs z) 1
unfolding of_int
integer-value (pos n) h = round_whole binary32 false n h
integer-value (negsuc n) h = round_whole binary32 true (suc n) h

value-outside : (w : Float) (s : Bool) (r : ℕ) → HasValue w s r 1 → 8193 ≤ r → Outside w
value-outside nan s r v h = tt
value-outside (inf t) s r v h = tt
value-outside (fin t m e) s r v h = le_trans (mul-le-mul_right (down e) h) (le_of_eq (sym v.1 ∙ mul-one (m * up e)))

far-outside : (w : Float) (s : Bool) → AtLeast s 8193 w → Outside w
far-outside nan s h = tt
far-outside (inf t) s h = tt
far-outside (fin t m e) s h = h.1

near-outcome : (w : Float) (s : Bool) (r : ℕ) → w ≡ of_int binary32 (signed s r) → r ≤ 4194304 → Outcome w (in_range s r)
near-outcome w s r e l =
    let z = signed s r in
    let size = size-signed s r in
    ⊎_elim (λ c. rw c.1 (within z (omega (arith, c.0)) e))
    (λ c. rw c.1 (outside (rw e (value-outside (of_int binary32 z) (negative z) (nat_abs z) (integer-value z (omega arith)) (omega (arith, c.0))))))
    (range-cases s r)

pub outcome : (v : Float) → T (fits binary32 v) → Outcome (converted v) (by_value v)
outcome nan f = unfold mul add sub of_bits in outside tt
outcome (inf false) f = unfold mul add sub of_bits in outside tt
outcome (inf true) f = unfold mul add sub of_bits in outside tt
outcome (fin s m e) f = go (ltb n (4194304 * d)) (ltb→lt n (4194304 * d)) (nltb→le n (4194304 * d))
  where
    n : ℕ
    n = m * up e * 128

    d : ℕ
    d = down e

    x : Float
    x = mul binary32 (fin s m e) scale

    go : (b : Bool) → (T b → n < 4194304 * d) → (T (not b) → 4194304 * d ≤ n) → Outcome (shifted x) (in_range s (nearest_even n d))
    go true g h =
        near-outcome (shifted x) s (nearest_even n d) (near-value x s n d (down_pos e) (g tt) (scaled_exact s m e f (g tt)))
        (nearest-le n d 4194304 (down_pos e) (omega (arith, g tt)))
    go false g h =
        let far = nearest-ge n d 4194304 (down_pos e) (h tt) in
        rw (out_of_range s (nearest_even n d) (omega arith)) (outside (far-outside (shifted x) s (shifted-far s x (scaled-far s m e (h tt)))))
