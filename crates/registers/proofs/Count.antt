-- How far up words differ, counted by their leading zeros, and the ages that are agreed then.
--   Reaches p n w     of the bits below n none from w on is set, and the one below w is
--   word-reaches      one word
--   reaches           the three words of the states before
--   agreed-is         the count of agreed ages
use mathlib.Core.Path.{◌≡◌, refl, sym, ap, subst, ◌∙◌}
use mathlib.Core.Bool.{Bool, true, false, cond}
use mathlib.Core.List.{List}
use mathlib.Core.Logic.{◌⊎◌, inl, inr}
use Prim.Native.Nat.{ℕ, zero, suc, ◌+◌, ◌-◌, ◌*◌, ◌/◌, ◌%◌, ◌^◌, ◌≤◌, ◌<◌}
use native.Mathlib.Decide.{dec_lt}
use native.Mathlib.Nat.{eq-zero-or-pos, mod-lt, lt_of_lt_of_le}
use native.Mathlib.Omega.{arith}
use lib.Count.{count_leading_zeros, leading_of_zero, leading_top}
use lib.Dec.{eqb, leb}
use lib.ListN.{length}
use lib.Pow.{pow_pos, pow_mono, shr_lt, shr_mono, shr_le, shl-shr}
use borrow.Author.Tests.{eq-eqb, ne_eqb, eqb-true, eqb-false, leb-true, leb-false}
use Rattle.registers.specs.Registers.{bit_at, words_before, same_at, oldest, clear_at, apart_of, parted_of, above_of, reach_of}
use Rattle.registers.proofs.Words.{low_bits}
use Rattle.registers.proofs.Oldest.{clear_bit, same-age, same_bit, oldest-is}

pub record Reaches (p : ℕ → Bool) (n w : ℕ) : Type 0 where
  pub within : w ≤ n
  pub clear : (i : ℕ) → w ≤ i → i < n → p i ≡ true
  pub last : (i : ℕ) → suc i ≡ w → p i ≡ false

-- ── one word ──
module _ (d m : ℕ) (h : m ≤ 64) where
  abbrev e : ℕ
  e = d % 2 ^ m

  bit_is : (q : ℕ) → q < m → bit_at d q ≡ bit_at e q
  bit_is q k = sym (low_bits d m q k)

  above : (q : ℕ) → e < 2 ^ q → bit_at e q ≡ 0
  above q k = omega (arith, shr_lt {n = e} 0 q (subst (λ (j : ℕ). e < 2 ^ j) (let w : q ≡ 0 + q = omega arith in w) k))

  zero_bit : (q : ℕ) → bit_at 0 q ≡ 0
  zero_bit q = omega (arith, shr_le 0 q)

  pub word-reaches : Reaches (clear_at d) m (64 - count_leading_zeros 64 (d % 2 ^ m))
  word-reaches = go (eq-zero-or-pos e)
    where
      go : (e ≡ 0) ⊎ (0 < e) → Reaches (clear_at d) m (64 - count_leading_zeros 64 e)
      go (inl z) =
          let none : 64 - count_leading_zeros 64 e ≡ 0 = omega (arith, ap (count_leading_zeros 64) z ∙ leading_of_zero 64) in
          record {
            within = omega arith;
            clear = λ i k l. eq-eqb (bit_at d i) 0 (bit_is i l ∙ ap (λ (x : ℕ). bit_at x i) z ∙ zero_bit i);
            last = λ i k. absurd (omega arith);
          }
      go (inr z) =
          let small : e < 2 ^ 64 = lt_of_lt_of_le (mod-lt d (pow_pos m)) (pow_mono h) in
          let t = leading_top 64 e z small in
          let j = t.0 in
          let w : 64 - count_leading_zeros 64 e ≡ suc j = omega (arith, t.1) in
          let low : j < m = below j t.2 in
          record {
            within = omega arith;
            clear = λ i k l. eq-eqb (bit_at d i) 0 (bit_is i l ∙ above i (lt_of_lt_of_le t.3 (pow_mono (let y : suc j ≤ i = omega arith in y))));
            last = λ i k. let s : i ≡ j = omega arith in ap (clear_at d) s ∙ ne_eqb (bit_at d j) 0 (λ (y : bit_at d j ≡ 0). omega (arith, bit_is j low, one j t.2 t.3));
          }
        where
          below : (j : ℕ) → 2 ^ j ≤ e → j < m
          below j k = side (dec_lt j m)
            where
              side : Dec (j < m) → j < m
              side (yes a) = a
              side (no a) = absurd (omega (arith, mod-lt d (pow_pos m), pow_mono {i = m} {j = j} (omega arith)))

          one : (j : ℕ) → 2 ^ j ≤ e → e < 2 ^ suc j → bit_at e j ≡ 1
          one j k l = omega (arith, shr_lt {n = e} 1 j (lt_of_lt_of_le l (pow_mono (let w : suc j ≤ 1 + j = omega arith in w))), shr_mono {a = 1 * 2 ^ j} {b = e} j (omega arith), shl-shr 1 j)

-- ── a word above others ──
reaches-above : (p r : ℕ → Bool) (base m low high : ℕ) → Reaches p base low → Reaches r m high → ((i : ℕ) → i < m → p (base + i) ≡ r i) → Reaches p (base + m) (above_of high base low)
reaches-above p r base m low high a b same = go (eqb high 0) refl
  where
    go : (x : Bool) → eqb high 0 ≡ x → Reaches p (base + m) (cond x low (base + high))
    go true z =
        let none : high ≡ 0 = eqb-true high 0 z in
        record {
          within = omega (arith, a.within);
          clear = λ i k l. side i k l (dec_lt i base);
          last = a.last;
        }
      where
        side : (i : ℕ) → low ≤ i → i < base + m → Dec (i < base) → p i ≡ true
        side i k l (yes y) = a.clear i k y
        side i k l (no y) =
            let e : base + (i - base) ≡ i = omega arith in
            ap p (sym e) ∙ same (i - base) (omega arith) ∙ b.clear (i - base) (omega (arith, eqb-true high 0 z)) (omega arith)
    go false z =
        let some : 0 < high = pos high (eqb-false high 0 z) in
        record {
          within = omega (arith, b.within);
          clear = λ i k l.
              let e : base + (i - base) ≡ i = omega arith in
              ap p (sym e) ∙ same (i - base) (omega arith) ∙ b.clear (i - base) (omega arith) (omega arith);
          last = λ i k.
              let e : base + (i - base) ≡ i = omega arith in
              ap p (sym e) ∙ same (i - base) (omega (arith, b.within)) ∙ b.last (i - base) (omega arith);
        }
      where
        pos : (x : ℕ) → (x ≡ 0 → ⊥) → 0 < x
        pos zero f = absurd (f refl)
        pos (suc x) f = omega arith

-- ── the words of the states before ──
module _ (registers steps : List ℕ) where
  abbrev words : ℕ → List ℕ
  words = words_before registers steps

  part : (b m : ℕ) → m ≤ 64 → Reaches (clear_at (apart_of (words b))) m (parted_of (words b) m)
  unfolding parted_of
  part b m h = subst (λ (k : ℕ). Reaches (clear_at (apart_of (words b))) m (64 - count_leading_zeros 64 (apart_of (words b) % 2 ^ k))) (least (leb 64 m) refl) (word-reaches (apart_of (words b)) m h)
    where
      least : (x : Bool) → leb 64 m ≡ x → m ≡ cond x 64 m
      least true e = omega (arith, leb-true 64 m e)
      least false e = refl

  at : (b i : ℕ) → i < 64 → clear_bit registers steps (64 * b + i) ≡ clear_at (apart_of (words b)) i
  at b i h =
      let e₀ : (64 * b + i) / 64 ≡ b = omega arith in
      let e₁ : (64 * b + i) % 64 ≡ i = omega arith in
      rw (e₀, e₁)

  first : (n : ℕ) → n ≤ 64 → Reaches (clear_bit registers steps) n (parted_of (words 0) n)
  first n h =
      let a = part 0 n h in
      let same : (i : ℕ) → i < n → clear_bit registers steps i ≡ clear_at (apart_of (words 0)) i = λ i k. ap (clear_bit registers steps) (let e : i ≡ 64 * 0 + i = omega arith in e) ∙ at 0 i (omega arith) in
      record { within = a.within; clear = λ i k l. same i l ∙ a.clear i k l; last = λ i k. same i (omega (arith, a.within)) ∙ a.last i k }

  next : (b m low : ℕ) → m ≤ 64 → Reaches (clear_bit registers steps) (64 * b) low → Reaches (clear_bit registers steps) (64 * b + m) (above_of (parted_of (words b) m) (64 * b) low)
  next b m low h a = reaches-above (clear_bit registers steps) (clear_at (apart_of (words b))) (64 * b) m low (parted_of (words b) m) a (part b m h) (λ i k. at b i (omega arith))

  pub reaches : (n : ℕ) → n ≤ 192 → Reaches (clear_bit registers steps) n (reach_of registers steps n)
  unfolding reach_of
  reaches n h = go (leb n 64) (leb n 128) refl refl
    where
      two : (m : ℕ) → m ≤ 64 → Reaches (clear_bit registers steps) (64 + m) (above_of (parted_of (words 1) m) 64 (parted_of (words 0) 64))
      two m k = next 1 m (parted_of (words 0) 64) k (first 64 (omega arith))

      go : (x y : Bool) → leb n 64 ≡ x → leb n 128 ≡ y →
          Reaches (clear_bit registers steps) n
          (cond x (parted_of (words 0) n)
          (cond y (above_of (parted_of (words 1) (n - 64)) 64 (parted_of (words 0) 64))
          (above_of (parted_of (words 2) (n - 128)) 128 (above_of (parted_of (words 1) 64) 64 (parted_of (words 0) 64)))))
      go true y a b = first n (leb-true n 64 a)
      go false true a b =
          subst (λ (k : ℕ). Reaches (clear_bit registers steps) k (above_of (parted_of (words 1) (n - 64)) 64 (parted_of (words 0) 64))) (let e : 64 + (n - 64) ≡ n = omega (arith, leb-false n 64 a) in e)
          (two (n - 64) (omega (arith, leb-true n 128 b)))
      go false false a b =
          subst (λ (k : ℕ). Reaches (clear_bit registers steps) k (above_of (parted_of (words 2) (n - 128)) 128 (above_of (parted_of (words 1) 64) 64 (parted_of (words 0) 64))))
          (let e : 128 + (n - 128) ≡ n = omega (arith, leb-false n 128 b) in e)
          (next 2 (n - 128) (above_of (parted_of (words 1) 64) 64 (parted_of (words 0) 64)) (omega arith) (two 64 (omega arith)))

  -- ── ages ──
  pub agreed-is : (n : ℕ) → n ≤ 64 → length steps ≡ 16 → (reach_of registers steps (3 * n) + 2) / 3 ≤ n → n - (reach_of registers steps (3 * n) + 2) / 3 ≡ oldest (same_at registers steps) n
  agreed-is n h long k =
      let w = reach_of registers steps (3 * n) in
      let r : Reaches (clear_bit registers steps) (3 * n) w = reaches (3 * n) (omega arith) in
      oldest-is (same_at registers steps) n ((w + 2) / 3) k
      (λ q a b. same-age registers steps long q (r.clear (3 * q) (omega arith) (omega arith)) (r.clear (3 * q + 1) (omega arith) (omega arith)) (r.clear (3 * q + 2) (omega arith) (omega arith)))
      (λ q a. other q (w - 1) (omega arith) (r.last (w - 1) (omega arith)))
    where
      other : (q i : ℕ) → i / 3 ≡ q → clear_bit registers steps i ≡ false → same_at registers steps q ≡ false
      other q i e f = go (same_at registers steps q) refl
        where
          go : (x : Bool) → same_at registers steps q ≡ x → same_at registers steps q ≡ false
          go true z = absurd (let y : ◌≡◌ {A = Bool} true false = sym (same_bit registers steps long i (ap (same_at registers steps) e ∙ z)) ∙ f in let o : ◌≡◌ {A = ℕ} 0 1 = cc in omega arith)
          go false z = z

  pub reach_few : (n : ℕ) → n ≤ 64 → (reach_of registers steps (3 * n) + 2) / 3 ≤ n
  reach_few n h = omega (arith, (reaches (3 * n) (omega arith)).within)
