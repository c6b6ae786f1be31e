-- The product v * 128. A finite v is m * up e / down e in size, so 128 times it is n / d with n = m * up e * 128 and d = down e. It
-- leans on proofs/Rounding.antt and on the library's `round_exact`.
--   scaled_exact   below 2 ^ 22 the product is that value itself: nothing is rounded
--   scaled-far     from 2 ^ 22 on it is 2 ^ 22 or more in size, or infinite
use mathlib.Core.Path.{◌≡◌, sym, ap, ◌∙◌, subst}
use Prim.Native.Nat.{ℕ, zero, suc, ◌+◌, ◌-◌, ◌*◌, ◌%◌, ◌^◌, ◌≤◌, ◌<◌}
use native.Mathlib.Nat.{le_trans, le_of_eq, lt_of_lt_of_le, lt_of_le_of_lt, lt_of_not-le, not-le_of_lt, lt_of_mul-lt-mul_right}
use native.Mathlib.Nat.{one-mul, mul-one, mul_assoc, mul_right_comm, mul-le-mul_right, mul-lt-mul_of_pos_right}
use native.Mathlib.Omega.{arith}
use mathlib.Core.Bool.{Bool, true, false, ◌&&◌}
use lib.IntN.{ℤ, pos, negsuc}
use lib.Dec.{T, eqb, leb, ltb, eqb→eq, leb→le, ltb→lt, lit<, lit≤}
use lib.Pow.{pow-add, pow_pos, pow-lt, pow_mono}
use lib.Ieee.{Float, fin, binary32, up, down, round, mul, of_bits, fits}
use lib.Ieee.Fits.{and_l, and_r, up_pos, down_pos}
use lib.Ieee.Exact.{HasValue, round_exact}
use Rattle.samples.proofs.Rounding.{AtLeast, round-at-least}

-- 128.0
abbrev pub scale : Float
scale = of_bits binary32 0x4300_0000

-- ---- what the format holds has at most 24 digits, and no exponent below -149
parts : (s : Bool) (m : ℕ) (e : ℤ) → T (fits binary32 (fin s m e)) → (m < 2 ^ 24) × (down e ≤ 2 ^ 149)
unfolding fits
parts s zero e t = (lit< tt, le_trans (le_of_eq (sym (one-mul (down e)))) (le_trans (mul-le-mul_right (down e) (up_pos e)) (le_trans (le_of_eq (eqb→eq (up e * down e) 1 t)) (lit≤ tt))))
parts s (suc m) e t =
    let a = eqb (suc m % 2) 1 in
    let b = ltb (suc m) (2 ^ 24) in
    let c = leb (down e) (2 ^ 149) in
    let u : T (a && b && c) = and_l (a && b && c) (ltb (suc m * up e) (2 ^ 128 * down e)) t in
    (ltb→lt (suc m) (2 ^ 24) (and_r a b (and_l (a && b) c u)), leb→le (down e) (2 ^ 149) (and_r (a && b) c u))

-- so 128 times the value is m * 2 ^ j of the format's smallest values, 2 ^ -149
exponent : (e : ℤ) → down e ≤ 2 ^ 149 → (j : ℕ) × (up e * 2 ^ 156 ≡ 2 ^ j * down e)
exponent (pos k) h = (k + 156, sym (pow-add 2 k 156) ∙ sym (mul-one (2 ^ (k + 156))))
exponent (negsuc k) h =
    let l : suc k < 150 = lt_of_not-le (λ (g : 150 ≤ suc k). not-le_of_lt (lt_of_lt_of_le (pow-lt (lit< {m = 149} {n = 150} tt)) (pow_mono g)) h) in
    (156 - suc k, one-mul (2 ^ 156) ∙ ap (λ (z : ℕ). 2 ^ z) (join k l) ∙ pow-add 2 (156 - suc k) (suc k))
  where
    join : (k : ℕ) → suc k < 150 → 156 ≡ 156 - suc k + suc k
    join k l = omega arith

mul-opens : (s : Bool) (m : ℕ) (e : ℤ) → mul binary32 (fin s m e) scale ≡ round binary32 s (m * up e * 128) (down e)
unfolding mul of_bits
mul-opens false m e = rw (mul-one (down e))
mul-opens true m e = rw (mul-one (down e))

pub scaled_exact : (s : Bool) (m : ℕ) (e : ℤ) → T (fits binary32 (fin s m e)) → m * up e * 128 < 4194304 * down e → HasValue (mul binary32 (fin s m e) scale) s (m * up e * 128) (down e)
scaled_exact s m e t h =
    let n = m * up e * 128 in
    let d = down e in
    let g = parts s m e t in
    let j = exponent e g.1 in
    let is : n * 2 ^ 149 ≡ m * 2 ^ j.0 * d = mul_assoc (m * up e) 128 (2 ^ 149) ∙ mul_assoc m (up e) (2 ^ 156) ∙ ap (λ (z : ℕ). m * z) j.1 ∙ sym (mul_assoc m (2 ^ j.0) d) in
    let small : m * 2 ^ j.0 < 2 ^ 171 =
    lt_of_mul-lt-mul_right d (lt_of_le_of_lt (le_of_eq (sym is)) (lt_of_lt_of_le (mul-lt-mul_of_pos_right h (pow_pos 149)) (le_of_eq (mul_right_comm 4194304 d (2 ^ 149))))) in
    subst (λ (x : Float). HasValue x s n d) (sym (mul-opens s m e))
    (round_exact binary32 s n d m j.0 (down_pos e) g.0 (lt_of_lt_of_le small (lit≤ tt)) is)

pub scaled-far : (s : Bool) (m : ℕ) (e : ℤ) → 4194304 * down e ≤ m * up e * 128 → AtLeast s 4194304 (mul binary32 (fin s m e) scale)
scaled-far s m e h = subst (AtLeast s 4194304) (sym (mul-opens s m e)) (round-at-least s (m * up e * 128) (down e) 4194304 (down_pos e) (lit≤ tt) h)
