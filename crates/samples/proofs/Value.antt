-- The meaning speaks of the bits; here it is turned to the float's value: of ± a / c what is heard is 128 a / c rounded, with its sign.
-- It leans on the library's `of_bits`, which gives the value of a pattern.
--   size-signed, in-range, out_of_range, range-cases   what `signed` and `in_range` are
--   by_value v     what is heard of v, by its value
--   of-value      the same of a float that is ± a / c, whichever fraction that is
--   of-bits       of the float that a pattern stands for, a NaN's too, it is what the meaning says of the pattern
--   heard-value   so it is what is heard of every float
use mathlib.Core.Path.{◌≡◌, refl, sym, ap, ◌∙◌, subst}
use Prim.Native.Nat.{ℕ, zero, suc, ◌+◌, ◌*◌, ◌^◌, ◌≤◌, ◌<◌}
use native.Mathlib.Nat.{mul-one, mul_comm, mul_assoc, mul_right_comm}
use mathlib.Core.Logic.{◌⊎◌, inl, inr}
use mathlib.Core.Bool.{Bool, true, false, not, cond}
use lib.IntN.{nat_abs}
use lib.Dec.{T, eqb, leb, le→leb, leb→le, nleb→lt}
use lib.Arith.{lt→nleb}
use lib.Pow.{pow_pos}
use lib.Ieee.{Float, nan, inf, fin, binary32, up, down, odd, of_fields, of_bits, to_bits, fits}
use lib.Ieee.Fits.{down_pos}
use lib.Ieee.Exact.{HasValue, odd_sign}
use lib.Ieee.Bits.{is_true, is_false, of_bits-to_bits}
use Rattle.samples.specs.Nearest.{nearest_even}
use Rattle.samples.specs.Given.{GivenCoordinate, done, refused}
use Rattle.samples.specs.Heard.{is_negative, field, digits, signed, in_range, heard_fields, heard_bits, heard_coordinate}
use Rattle.samples.proofs.Nearest.{nearest-same}

-- ---- the range
pub size-signed : (s : Bool) (r : ℕ) → nat_abs (signed s r) ≡ r
size-signed false r = refl
size-signed true zero = refl
size-signed true (suc r) = refl

pub in-range : (s : Bool) (r : ℕ) → r ≤ 8192 → in_range s r ≡ done (signed s r)
unfolding in_range
in-range s r h = rw (is_true (leb r 8192) (le→leb r 8192 h))

pub out_of_range : (s : Bool) (r : ℕ) → 8192 < r → in_range s r ≡ refused
unfolding in_range
out_of_range s r h = rw (is_false (leb r 8192) (lt→nleb r 8192 h))

pub range-cases : (s : Bool) (r : ℕ) → ((r ≤ 8192) × (in_range s r ≡ done (signed s r))) ⊎ ((8192 < r) × (in_range s r ≡ refused))
range-cases s r = go (leb r 8192) (leb→le r 8192) (nleb→lt r 8192)
  where
    go : (b : Bool) → (T b → r ≤ 8192) → (T (not b) → 8192 < r) → ((r ≤ 8192) × (in_range s r ≡ done (signed s r))) ⊎ ((8192 < r) × (in_range s r ≡ refused))
    go true f g = inl (f tt, in-range s r (f tt))
    go false f g = inr (g tt, out_of_range s r (g tt))

-- ---- by the value
abbrev pub by_value : Float → GivenCoordinate
by_value nan = refused
by_value (inf s) = refused
by_value (fin s m e) = in_range s (nearest_even (m * up e * 128) (down e))

pub of-value : (x : Float) (s : Bool) (a c : ℕ) → 0 < c → HasValue x s a c → by_value x ≡ in_range s (nearest_even (128 * a) c)
of-value nan s a c C v = absurd v
of-value (inf t) s a c C v = absurd v
of-value (fin t m e) s a c C v =
    let n = m * up e in
    let d = down e in
    let same : n * 128 * c ≡ 128 * a * d = mul_right_comm n 128 c ∙ ap (λ (z : ℕ). z * 128) v.1 ∙ mul_comm (a * d) 128 ∙ sym (mul_assoc 128 a d) in
    ap (λ (u : Bool). in_range u (nearest_even (n * 128) d)) v.0 ∙ ap (in_range s) (nearest-same (n * 128) d (128 * a) c (down_pos e) C same)

of-fields : (s : Bool) (x t : ℕ) → by_value (of_fields binary32 s x t) ≡ heard_fields s x t
unfolding of_fields heard_fields
of-fields s zero t = of-value (odd 24 s t 0 149) s t (2 ^ 149) (pow_pos 149) (subst (λ (z : ℕ). HasValue (odd 24 s t 0 149) s z (2 ^ 149)) (mul-one t) (odd_sign 24 s t 0 149))
of-fields s (suc x) t = go (eqb (suc x) 255) (eqb t 0)
  where
    go : (a b : Bool) → by_value (cond a (cond b (inf s) nan) (odd 24 s (2 ^ 23 + t) x 149)) ≡ cond a refused (in_range s (nearest_even (128 * ((2 ^ 23 + t) * 2 ^ x)) (2 ^ 149)))
    go true true = refl
    go true false = refl
    go false b = of-value (odd 24 s (2 ^ 23 + t) x 149) s ((2 ^ 23 + t) * 2 ^ x) (2 ^ 149) (pow_pos 149) (odd_sign 24 s (2 ^ 23 + t) x 149)

pub of-bits : (b : ℕ) → by_value (of_bits binary32 b) ≡ heard_bits b
unfolding of_bits heard_bits
of-bits b = of-fields (is_negative b) (field b) (digits b)

pub heard-value : (v : Float) → T (fits binary32 v) → heard_coordinate v ≡ by_value v
unfolding heard_coordinate
heard-value v h = sym (of-bits (to_bits binary32 v)) ∙ ap by_value (of_bits-to_bits binary32 v h)
