-- Laws of digits: the worth of each kind of byte, and how `number_of` goes byte by byte.
use Prim.Native.Nat.{ℕ, suc, ◌+◌, ◌-◌, ◌*◌, ◌≤◌, ◌<◌}
use mathlib.Core.Path.{◌≡◌, refl, sym, ap, ◌∙◌}
use mathlib.Core.Bool.{Bool, true, false, cond}
use mathlib.Core.List.{List, [], ◌∷◌}
use native.Mathlib.Omega.{arith}
use native.Mathlib.Nat.{le-mul_of_pos_right}
use native.Mathlib.Numerals.{add-one}
use borrow.Author.Tests.{le-leb, lt-leb, lt-ltb, le-ltb, eq-eqb, ne_eqb, leb-true}
use lib.Dec.{leb}
use lib.IntN.{pos, neg_ℤ}
use lib.ListN.{length, get_or, take, drop, length-drop, drop_of_length-le}
use lib.Seq.{drop-cons, take_all}
use Rattle.std.specs.Prelude.{Option, Some, None, unwrap_or, option_map}
use Rattle.text.specs.Number.{between, digit_of, only_digits, value, number_of, hex_of, whole_of}

inside : (low high first : ℕ) (other : Option ℕ) {b : ℕ} → low ≤ b → b ≤ high → between low high first b other ≡ Some (b - low + first)
inside low high first other {b} h k = simp (le-leb low b h, le-leb b high k)

outside : (low high first : ℕ) (other : Option ℕ) {b : ℕ} → (low ≤ b → b ≤ high → ⊥) → between low high first b other ≡ other
outside low high first other {b} h = by (leb low b) (leb b high) refl refl where
  by : (x y : Bool) → leb low b ≡ x → leb b high ≡ y → cond x (cond y (Some (b - low + first)) other) other ≡ other
  by true true e f = absurd (h (leb-true low b e) (leb-true b high f))
  by true false e f = refl
  by false y e f = refl

above : (low high first : ℕ) (other : Option ℕ) {b : ℕ} → high < b → between low high first b other ≡ other
above low high first other h = outside low high first other (λ p q. omega arith)

pub figure : (b : ℕ) → 48 ≤ b → b < 58 → Some (b - 48) ≡ digit_of b
unfolding digit_of
figure b h k = rw (inside 48 57 0 _ {b = b} h (omega arith)) (ap Some (omega arith))

pub large-letter : (b : ℕ) → 65 ≤ b → b < 71 → Some (b - 65 + 10) ≡ digit_of b
unfolding digit_of
large-letter b h k = rw (above 48 57 0 _ {b = b} (omega arith), inside 65 70 10 _ {b = b} h (omega arith))

pub small-letter : (b : ℕ) → 97 ≤ b → b < 103 → Some (b - 97 + 10) ≡ digit_of b
unfolding digit_of
small-letter b h k = rw (above 48 57 0 _ {b = b} (omega arith), above 65 70 10 _ {b = b} (omega arith), inside 97 102 10 _ {b = b} h (omega arith))

pub no_digit : (b : ℕ) → (48 ≤ b → b ≤ 57 → ⊥) → (65 ≤ b → b ≤ 70 → ⊥) → (97 ≤ b → b ≤ 102 → ⊥) → None ≡ digit_of b
unfolding digit_of
no_digit b h k l = rw (outside 48 57 0 _ h, outside 65 70 10 _ k, outside 97 102 10 _ l)

-- the part from n to the end
pub to_end : (n : ℕ) (s : List ℕ) → take (length s - n) (drop n s) ≡ drop n s
to_end n s = take_all (length s - n) (drop n s) (omega (arith, length-drop n s))

-- a choice between equals
pub both {ℓ} : {A : Type ℓ} (t : Bool) (x : A) → x ≡ cond t x x
both true x = refl
both false x = refl

-- n, and the bytes of s from i on, write what all of s writes
pub record Reads (base : ℕ) (s : List ℕ) (n i : ℕ) : Type 0 where
  pub only : only_digits base (drop i s) ≡ only_digits base s
  pub value-is : value base n (drop i s) ≡ value base 0 s

pub started : (base : ℕ) (s : List ℕ) → Reads base s 0 0
started base s = record { only = refl; value-is = refl }

pub further : {base : ℕ} {s : List ℕ} {n i d : ℕ} → Reads base s n i → i < length s → Some d ≡ digit_of (get_or s i 0) → d < base → Reads base s (n * base + d) (i + 1)
further {base} {s} {n} {i} {d} r h is k = record { only = on ∙ r.only; value-is = grown ∙ r.value-is } where
  on : only_digits base (drop (i + 1) s) ≡ only_digits base (drop i s)
  on = rw (add-one, drop-cons s i 0 h, ← is) (simp (lt-ltb d base k))

  grown : value base (n * base + d) (drop (i + 1) s) ≡ value base n (drop i s)
  grown =
      rw (add-one, drop-cons s i 0 h)
      (ap (λ (o : Option ℕ). value base (n * base + unwrap_or o 16) (drop (suc i) s)) is)

value_grows : (base n : ℕ) (s : List ℕ) → 1 ≤ base → n ≤ value base n s
value_grows base n [] h = omega arith
value_grows base n (b ∷ s) h = omega (arith, value_grows base (n * base + unwrap_or (digit_of b) 16) s h, le-mul_of_pos_right {m = base} n h)

pub bad-bytes : (base most : ℕ) (s : List ℕ) → only_digits base s ≡ false → None ≡ number_of base most s
unfolding number_of
bad-bytes base most s h = simp h (both (leb 1 (length s)) None)

module _ {base : ℕ} {s : List ℕ} {n i : ℕ} (r : Reads base s n i) (most : ℕ) where
  pub no-digit : base ≤ 16 → i < length s → None ≡ digit_of (get_or s i 0) → None ≡ number_of base most s
  no-digit small h is = bad-bytes base most s (sym r.only ∙ rw (drop-cons s i 0 h, ← is) (simp (le-ltb 16 base small)))

  pub other_byte : (d : ℕ) → i < length s → Some d ≡ digit_of (get_or s i 0) → base ≤ d → None ≡ number_of base most s
  other_byte d h is k = bad-bytes base most s (sym r.only ∙ rw (drop-cons s i 0 h, ← is) (simp (le-ltb d base k)))

  pub too_large : 1 ≤ base → most < n → None ≡ number_of base most s
  unfolding number_of
  too_large h k =
      let over : most < value base 0 s = omega (arith, r.value-is, value_grows base n (drop i s) h) in
      simp (lt-leb (value base 0 s) most over)
      (rw (← both {A = Option ℕ} (only_digits base s) None) (both {A = Option ℕ} (leb 1 (length s)) None))

  pub all_read : length s ≤ i → 1 ≤ length s → n ≤ most → Some n ≡ number_of base most s
  unfolding number_of
  all_read h k l =
      let none : drop i s ≡ [] = drop_of_length-le s h in
      let only : only_digits base s ≡ true = sym r.only ∙ rw none in
      let is : value base 0 s ≡ n = sym r.value-is ∙ rw none in
      simp (le-leb 1 (length s) k, only, is, le-leb n most l)

pub no_bytes : (base most : ℕ) (s : List ℕ) → length s ≡ 0 → None ≡ number_of base most s
unfolding number_of
no_bytes base most s h = simp (lt-leb 1 (length s) (omega arith))

pub got-most : (base most : ℕ) (s : List ℕ) {n : ℕ} → Some n ≡ number_of base most s → n ≤ most
unfolding number_of
got-most base most s {n} = by (leb 1 (length s)) (only_digits base s) (leb (value base 0 s) most) refl where
  by : (x y z : Bool) → leb (value base 0 s) most ≡ z
      → Some n ≡ cond x (cond y (cond z (Some (value base 0 s)) None) None) None → n ≤ most
  by true true true e h =
      let same : n ≡ value base 0 s = cc in
      omega (arith, leb-true (value base 0 s) most e)
  by true true false e h = let z : ◌≡◌ {A = ℕ} 0 1 = cc in omega arith
  by true false z e h = let z : ◌≡◌ {A = ℕ} 0 1 = cc in omega arith
  by false y z e h = let z : ◌≡◌ {A = ℕ} 0 1 = cc in omega arith

pub eight : (s : List ℕ) → length s ≡ 8 → number_of 16 4294967295 s ≡ hex_of s
unfolding hex_of
eight s h = simp (eq-eqb (length s) 8 h)

pub not_eight : (s : List ℕ) → (length s ≡ 8 → ⊥) → None ≡ hex_of s
unfolding hex_of
not_eight s h = simp (ne_eqb (length s) 8 h)

pub minus-whole : (s t : List ℕ) → s ≡ 45 ∷ t → option_map (λ n. neg_ℤ (pos n)) (number_of 10 2147483648 t) ≡ whole_of s
unfolding whole_of
minus-whole s t e = rw e

pub plain-whole : (s : List ℕ) → ((t : List ℕ) → s ≡ 45 ∷ t → ⊥) → option_map pos (number_of 10 2147483647 s) ≡ whole_of s
unfolding whole_of number_of
plain-whole [] h = refl
plain-whole (b ∷ s) h = simp (ne_eqb b 45 (λ e. h s (ap (λ x. x ∷ s) e)))
