-- Words: what the shifts and masks of src/word.rt come to, and that packing and unpacking undo one another at every width.
--   pack-unpack   the parts of a word, packed, are the word
--   unpack-pack   a packed word's parts are what was packed
--   parts-range   a word's parts are in range
--   packed-below  a packed word has no bit at or above 3 + 2u
use mathlib.Core.Path.{◌≡◌, sym, ap, ap₂, subst, ◌∙◌}
use mathlib.Core.Bool.{true}
use Prim.Native.Nat.{ℕ, ◌+◌, ◌-◌, ◌*◌, ◌/◌, ◌%◌, ◌^◌, ◌≤◌, ◌<◌}
use native.Mathlib.Nat.{one-mul, mul_comm, mul_assoc, mul-le-mul_left, div-eq_of_lt, mod-eq_of_lt, mod-lt, mod-add-div, div-div-eq-div-mul, le-div_iff_mul-le}
use native.Mathlib.Decide.{dec_lt}
use native.Mathlib.Omega.{arith}
use lib.Bits.{bit_and, bit_or, and_mask, or_shifted_r}
use lib.Pow.{pow_pos, pow-add, shl_exact, shr-shr, shr_lt}
use lib.Arith.{digits_div, digits_mod}
use lib.Dec.{eqb, ltb}
use borrow.Author.Tests.{lt-ltb, le-ltb, ltb-true, eq-eqb, ne_eqb}
use Rattle.wei.specs.declared.word.Parts.{Parts}
use Rattle.wei.specs.Word.{is_word, unpacked, packed, InRange}

-- ---- shifts and masks

pub bit_at : (u : ℕ) → u ≤ 8 → 1 * 2 ^ u % 2 ^ 32 ≡ 2 ^ u
bit_at u h = shl_exact {a = 1} 1 u 32 (omega arith) (omega arith) ∙ one-mul (2 ^ u)

pub masked : (n u : ℕ) → u ≤ 8 → bit_and n (1 * 2 ^ u % 2 ^ 32 - 1) ≡ n % 2 ^ u
masked n u h = ap (λ (m : ℕ). bit_and n (m - 1)) (bit_at u h) ∙ and_mask n u

pub masked-w2 : (n u : ℕ) → u ≤ 8 → bit_and (n / 2 ^ (3 + u)) (1 * 2 ^ u % 2 ^ 32 - 1) ≡ n / 8 / 2 ^ u % 2 ^ u
masked-w2 n u h = masked (n / 2 ^ (3 + u)) u h ∙ ap (λ (m : ℕ). m % 2 ^ u) (sym (shr-shr n 3 u))

pub none_above : (n k : ℕ) → eqb (n / 2 ^ k) 0 ≡ ltb n (2 ^ k)
none_above n k = go (dec_lt n (2 ^ k))
  where
    go : Dec (n < 2 ^ k) → eqb (n / 2 ^ k) 0 ≡ ltb n (2 ^ k)
    go (yes h) = eq-eqb (n / 2 ^ k) 0 (div-eq_of_lt h) ∙ sym (lt-ltb n (2 ^ k) h)
    go (no f) =
        let g : 2 ^ k ≤ n = omega arith in
        let l : 1 ≤ n / 2 ^ k = (le-div_iff_mul-le (pow_pos k)).1 (subst (λ (m : ℕ). m ≤ n) (sym (one-mul (2 ^ k))) g) in
        ne_eqb (n / 2 ^ k) 0 (λ e. omega arith) ∙ sym (le-ltb n (2 ^ k) g)

-- the five parts, one on the other
pub joined : (u : ℕ) (p : Parts) → u ≤ 8 → InRange u p →
    bit_or (bit_or (bit_or (bit_or p.i1 (p.i2 * 2 % 2 ^ 32)) (p.i3 * 4 % 2 ^ 32)) (p.w1 * 8 % 2 ^ 32)) (p.w2 * 2 ^ (3 + u) % 2 ^ 32) ≡ packed u p
unfolding packed
joined u p h r =
    let t : 2 ^ (3 + u) ≡ 8 * 2 ^ u = pow-add 2 3 u in
    let e2 : p.i2 * 2 % 2 ^ 32 ≡ p.i2 * 2 = omega arith in
    let e3 : p.i3 * 4 % 2 ^ 32 ≡ p.i3 * 4 = omega arith in
    let e4 : p.w1 * 8 % 2 ^ 32 ≡ p.w1 * 8 = shl_exact u 3 32 r.w1-below (omega arith) in
    let e5 : p.w2 * 2 ^ (3 + u) % 2 ^ 32 ≡ p.w2 * 2 ^ (3 + u) = shl_exact u (3 + u) 32 r.w2-below (omega arith) in
    let a2 : p.i2 * 2 + p.i1 < 4 = omega arith in
    let a3 : p.i3 * 4 + (p.i2 * 2 + p.i1) < 8 = omega arith in
    let a4 : p.w1 * 8 + (p.i3 * 4 + (p.i2 * 2 + p.i1)) < 2 ^ (3 + u) = omega (arith, r.w1-below) in
    let q : p.w2 * 2 ^ (3 + u) ≡ 8 * (2 ^ u * p.w2) = ap (λ (m : ℕ). p.w2 * m) t ∙ mul_comm p.w2 (8 * 2 ^ u) ∙ mul_assoc 8 (2 ^ u) p.w2 in
    ap₂ bit_or (ap₂ bit_or (ap₂ bit_or (ap (bit_or p.i1) e2 ∙ or_shifted_r p.i2 1 p.i1 r.i1-below) e3 ∙ or_shifted_r p.i3 2 (p.i2 * 2 + p.i1) a2) e4
    ∙ or_shifted_r p.w1 3 (p.i3 * 4 + (p.i2 * 2 + p.i1)) a3) e5
    ∙ or_shifted_r p.w2 (3 + u) (p.w1 * 8 + (p.i3 * 4 + (p.i2 * 2 + p.i1))) a4
    ∙ omega arith

-- ---- the inverse laws

pub parts-range : (u n : ℕ) → InRange u (unpacked u n)
unfolding unpacked
parts-range u n =
    record {
      i1-below = omega arith;
      i2-below = omega arith;
      i3-below = omega arith;
      w1-below = mod-lt (n / 8) (pow_pos u);
      w2-below = mod-lt (n / 8 / 2 ^ u) (pow_pos u);
    }

three-bits : (n : ℕ) → n % 2 + 2 * (n / 2 % 2) + 4 * (n / 4 % 2) + 8 * (n / 8) ≡ n
three-bits n = omega (arith, div-div-eq-div-mul n 2 2, div-div-eq-div-mul n 4 2)

pub pack-unpack : (u n : ℕ) → is_word u n ≡ true → packed u (unpacked u n) ≡ n
unfolding unpacked packed
pack-unpack u n t =
    let h : n < 2 ^ (3 + u + u) = ltb-true n (2 ^ (3 + u + u)) t in
    let e : 3 + u + u ≡ u + u + 3 = omega arith in
    let a : n / 8 < 2 ^ (u + u) = shr_lt (u + u) 3 (subst (λ (k : ℕ). n < 2 ^ k) e h) in
    let b : n / 8 / 2 ^ u % 2 ^ u ≡ n / 8 / 2 ^ u = mod-eq_of_lt (shr_lt u u a) in
    let d : n / 8 % 2 ^ u + 2 ^ u * (n / 8 / 2 ^ u % 2 ^ u) ≡ n / 8 = ap (λ (k : ℕ). n / 8 % 2 ^ u + 2 ^ u * k) b ∙ mod-add-div (n / 8) (2 ^ u) in
    ap (λ (k : ℕ). n % 2 + 2 * (n / 2 % 2) + 4 * (n / 4 % 2) + 8 * k) d ∙ three-bits n

-- a number over three bits
module _ (a b c v : ℕ) (ha : a < 2) (hb : b < 2) (hc : c < 2) where
  bit0 : (a + 2 * b + 4 * c + 8 * v) % 2 ≡ a
  bit0 = omega arith

  bit1 : (a + 2 * b + 4 * c + 8 * v) / 2 % 2 ≡ b
  bit1 = omega arith

  bit2 : (a + 2 * b + 4 * c + 8 * v) / 4 % 2 ≡ c
  bit2 = omega arith

  over : (a + 2 * b + 4 * c + 8 * v) / 8 ≡ v
  over = omega arith

pub unpack-pack : (u : ℕ) (p : Parts) → InRange u p → unpacked u (packed u p) ≡ p
unfolding unpacked packed
unpack-pack u p r =
    let v = p.w1 + 2 ^ u * p.w2 in
    let o = over p.i1 p.i2 p.i3 v r.i1-below r.i2-below r.i3-below ∙ (let t : p.w1 + 2 ^ u * p.w2 ≡ p.w2 * 2 ^ u + p.w1 = omega (arith, mul_comm (2 ^ u) p.w2) in t) in
    λ i. record {
      i1 = bit0 p.i1 p.i2 p.i3 v r.i1-below r.i2-below r.i3-below i;
      i2 = bit1 p.i1 p.i2 p.i3 v r.i1-below r.i2-below r.i3-below i;
      i3 = bit2 p.i1 p.i2 p.i3 v r.i1-below r.i2-below r.i3-below i;
      w1 = (ap (λ (k : ℕ). k % 2 ^ u) o ∙ digits_mod p.w2 r.w1-below) i;
      w2 = (ap (λ (k : ℕ). k / 2 ^ u % 2 ^ u) o ∙ ap (λ (k : ℕ). k % 2 ^ u) (digits_div p.w2 r.w1-below) ∙ mod-eq_of_lt r.w2-below) i;
    }

pub packed-below : (u : ℕ) (p : Parts) → InRange u p → is_word u (packed u p) ≡ true
unfolding packed
packed-below u p r =
    let e : 2 ^ (3 + u + u) ≡ 8 * (2 ^ u * 2 ^ u) = pow-add 2 (3 + u) u ∙ ap (λ (k : ℕ). k * 2 ^ u) (pow-add 2 3 u) ∙ mul_assoc 8 (2 ^ u) (2 ^ u) in
    let h : 2 ^ u * p.w2 + 2 ^ u ≤ 2 ^ u * 2 ^ u = omega (arith, mul-le-mul_left (2 ^ u) (let l : p.w2 + 1 ≤ 2 ^ u = omega (arith, r.w2-below) in l)) in
    lt-ltb (packed u p) (2 ^ (3 + u + u)) (omega (arith, e, h, r.w1-below, r.i1-below, r.i2-below, r.i3-below))
