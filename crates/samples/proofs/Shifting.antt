-- The sum with 12582912, which is 3 * 2 ^ 22 and stands halfway between 2 ^ 23 and 2 ^ 24, and the difference that takes it off again. A
-- finite x is n / d in size, with n = m * up e and d = down e. It leans on proofs/Rounding.antt and proofs/Nearest.antt.
--   shifted-near   below 2 ^ 22 the two make x the nearest whole number, with its sign
--   shifted-far    from 2 ^ 22 on they leave it 8193 or more in size, or infinite
use mathlib.Core.Path.{◌≡◌, refl, ap, ◌∙◌}
use Prim.Native.Nat.{ℕ, zero, suc, ◌+◌, ◌-◌, ◌*◌, ◌≤◌, ◌<◌}
use native.Mathlib.Nat.{add_comm, add-mul, mul-one, mul-pos, zero-lt-suc}
use native.Mathlib.Omega.{arith}
use mathlib.Core.Bool.{Bool, true, false, not, ◌&&◌, cond, true≢false, false≢true}
use lib.IntN.{ℤ, pos}
use lib.Dec.{T, ltb, lt→ltb, nltb→le, lit<, lit≤}
use lib.Arith.{le→nltb}
use lib.Ieee.{Float, nan, inf, fin, binary32, up, down, round, add, sub, sum, of_int, of_bits}
use lib.Ieee.Fits.{down_pos}
use lib.Ieee.Bits.{is_true, is_false}
use lib.Ieee.Exact.{HasValue}
use lib.Ieee.Scale.{round_same}
use Rattle.samples.specs.Nearest.{nearest_even}
use Rattle.samples.specs.Heard.{signed}
use Rattle.samples.proofs.Nearest.{nearest-le, nearest-plus, nearest-minus}
use Rattle.samples.proofs.Rounding.{AtLeast, AtMost, round-to-whole, round-at-least, round-at-most}

-- 12582912.0
abbrev pub big : Float
big = of_bits binary32 0x4b40_0000

abbrev pub shifted : Float → Float
shifted x = sub binary32 (add binary32 x big) big

-- ---- a sum of opposite signs, of sizes a and b over c
sum_less : (t : Bool) (a b c : ℕ) → a < b → sum binary32 (not t) a t b c ≡ round binary32 t (b - a) c
unfolding sum
sum_less false a b c h = rw (is_true (ltb a b) (lt→ltb a b h))
sum_less true a b c h = rw (is_true (ltb a b) (lt→ltb a b h))

sum_more : (a b c : ℕ) → b ≤ a → sum binary32 false a true b c ≡ round binary32 false (a - b) c
unfolding sum
sum_more a b c h = rw (is_false (ltb a b) (le→nltb a b h))

add-plus : (m : ℕ) (e : ℤ) → add binary32 (fin false m e) big ≡ round binary32 false (12582912 * down e + m * up e) (down e)
unfolding add sum of_bits
add-plus m e = rw (mul-one (m * up e), mul-one (down e), add_comm (m * up e) (12582912 * down e))

add-minus : (m : ℕ) (e : ℤ) → m * up e < 12582912 * down e → add binary32 (fin true m e) big ≡ round binary32 false (12582912 * down e - m * up e) (down e)
unfolding add of_bits
add-minus m e h = rw (mul-one (m * up e), mul-one (down e)) (sum_less false (m * up e) (12582912 * down e) (down e) h)

-- ---- taking the constant off a whole number y
off-more : (y : Float) (r : ℕ) → HasValue y false (12582912 + r) 1 → sub binary32 y big ≡ of_int binary32 (pos r)
unfolding sub add of_int of_bits
off-more nan r v = absurd v
off-more (inf s) r v = absurd v
off-more (fin true m e) r v = absurd (true≢false v.0)
off-more (fin false m e) r v =
    let n = m * up e in
    let d = down e in
    let w : n * 1 ≡ 12582912 * d + r * d = v.1 ∙ add-mul 12582912 r d in
    sum_more (n * 1) (12582912 * d) (d * 1) (omega arith)
    ∙ round_same binary32 false (n * 1 - 12582912 * d) (d * 1) r 1 (mul-pos (down_pos e) (lit< tt)) (lit< tt) (omega arith)

off_less : (y : Float) (r : ℕ) → r ≤ 12582912 → HasValue y false (12582912 - r) 1 → sub binary32 y big ≡ of_int binary32 (signed true r)
unfolding sub add of_int of_bits
off_less y zero l v = off-more y 0 v
off_less nan (suc k) l v = absurd v
off_less (inf s) (suc k) l v = absurd v
off_less (fin true m e) (suc k) l v = absurd (true≢false v.0)
off_less (fin false m e) (suc k) l v =
    let n = m * up e in
    let d = down e in
    let j = 12582912 - suc k in
    let w : n * 1 ≡ j * d = v.1 in
    let split : 12582912 * d ≡ j * d + suc k * d = ap (λ (z : ℕ). z * d) (parts k l) ∙ add-mul j (suc k) d in
    let gap : 0 < suc k * d = mul-pos (zero-lt-suc k) (down_pos e) in
    sum_less true (n * 1) (12582912 * d) (d * 1) (omega arith)
    ∙ round_same binary32 true (12582912 * d - n * 1) (d * 1) (suc k) 1 (mul-pos (down_pos e) (lit< tt)) (lit< tt) (omega arith)
  where
    parts : (k : ℕ) → suc k ≤ 12582912 → 12582912 ≡ 12582912 - suc k + suc k
    parts k l = omega arith

-- ---- near: the sum is the rounding, since it falls where the floats are the whole numbers
pub shifted-near : (s : Bool) (m : ℕ) (e : ℤ) → m * up e < 4194304 * down e → shifted (fin s m e) ≡ of_int binary32 (signed s (nearest_even (m * up e) (down e)))
shifted-near false m e h =
    let n = m * up e in
    let d = down e in
    let whole = round-to-whole (12582912 * d + n) d (down_pos e) (omega arith) (omega arith) in
    off-more (add binary32 (fin false m e) big) (nearest_even n d)
    (rw (add-plus m e, ← (nearest-plus 12582912 n d refl (down_pos e))) whole)
shifted-near true m e h =
    let n = m * up e in
    let d = down e in
    let whole = round-to-whole (12582912 * d - n) d (down_pos e) (omega arith) (omega arith) in
    off_less (add binary32 (fin true m e) big) (nearest_even n d) (nearest-le n d 12582912 (down_pos e) (omega arith))
    (rw (add-minus m e (omega arith), ← (nearest-minus 12582912 n d refl (down_pos e) (omega arith))) whole)

-- ---- far: coarser floats, but the sum stays away from the constant, on its own side
abbrev Low : Float → Type 0
Low nan = ⊥
Low (inf t) = t ≡ true
Low (fin true m e) = Unit
Low (fin false m e) = m * up e ≤ 8388608 * down e

off-high : (y : Float) → AtLeast false 16777216 y → AtLeast false 8193 (sub binary32 y big)
unfolding sub add of_bits
off-high nan h = absurd h
off-high (inf s) h = h
off-high (fin true m e) h = absurd (true≢false h.0)
off-high (fin false m e) h =
    let n = m * up e in
    let d = down e in
    rw (mul-one n, mul-one d, sum_more n (12582912 * d) d (omega arith)) (round-at-least false (n - 12582912 * d) d 8193 (down_pos e) (lit≤ tt) (omega (arith, down_pos e)))

off-low : (y : Float) → Low y → AtLeast true 8193 (sub binary32 y big)
unfolding sub add sum of_bits
off-low nan h = absurd h
off-low (inf s) h = h
off-low (fin true m e) h =
    let n = m * up e in
    let d = down e in
    rw (mul-one n, mul-one d) (round-at-least true (n + 12582912 * d) d 8193 (down_pos e) (lit≤ tt) (omega arith))
off-low (fin false m e) h =
    let n = m * up e in
    let d = down e in
    rw (mul-one n, mul-one d, sum_less true n (12582912 * d) d (omega (arith, down_pos e))) (round-at-least true (12582912 * d - n) d 8193 (down_pos e) (lit≤ tt) (omega arith))

to_high : (x : Float) → AtLeast false 4194304 x → AtLeast false 16777216 (add binary32 x big)
to_high nan h = absurd h
to_high (inf s) h = unfold add of_bits in h
to_high (fin true m e) h = absurd (true≢false h.0)
to_high (fin false m e) h = rw (add-plus m e) (round-at-least false (12582912 * down e + m * up e) (down e) 16777216 (down_pos e) (lit≤ tt) (omega arith))

most-low : (y : Float) → AtMost 8388608 y → Low y
most-low nan h = absurd h
most-low (inf s) h = absurd h
most-low (fin true m e) h = tt
most-low (fin false m e) h = h

negative-low : (y : Float) (q : ℕ) → AtLeast true q y → Low y
negative-low nan q h = absurd h
negative-low (inf s) q h = h
negative-low (fin true m e) q h = tt
negative-low (fin false m e) q h = absurd (false≢true h.0)

to_low : (x : Float) → AtLeast true 4194304 x → Low (add binary32 x big)
unfolding add sum of_bits
to_low nan h = absurd h
to_low (inf s) h = h
to_low (fin false m e) h = absurd (false≢true h.0)
to_low (fin true m e) h = rw (mul-one n, mul-one d) (go (ltb n B) (ltb B n) (nltb→le n B) (nltb→le B n))
  where
    n : ℕ
    n = m * up e

    d : ℕ
    d = down e

    B : ℕ
    B = 12582912 * d

    go : (u v : Bool) → (T (not u) → B ≤ n) → (T (not v) → n ≤ B) → Low (cond u (round binary32 false (B - n) d) (round binary32 (true && v) (n - B) d))
    go true v f g = most-low (round binary32 false (B - n) d) (round-at-most (B - n) d 8388608 (down_pos e) (lit≤ tt) (omega (arith, h.1)))
    go false true f g = negative-low (round binary32 true (n - B) d) 0 (round-at-least true (n - B) d 0 (down_pos e) (lit≤ tt) (omega arith))
    go false false f g = most-low (round binary32 false (n - B) d) (round-at-most (n - B) d 8388608 (down_pos e) (lit≤ tt) (omega (arith, g tt)))

pub shifted-far : (s : Bool) (x : Float) → AtLeast s 4194304 x → AtLeast s 8193 (shifted x)
shifted-far false x h = off-high (add binary32 x big) (to_high x h)
shifted-far true x h = off-low (add binary32 x big) (to_low x h)
