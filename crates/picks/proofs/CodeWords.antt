-- The word of a symbol, put together by shifts and masks.
--   symbol-valid    a symbol that is read can be sent, whatever the words hold
--   last-below      the second label, as a place in a word
--   said            what is said is the word of the symbol
use mathlib.Core.Path.{◌≡◌, ap, ◌∙◌}
use Prim.Native.Nat.{ℕ, ◌+◌, ◌-◌, ◌*◌, ◌/◌, ◌%◌, ◌^◌, ◌≤◌, ◌<◌}
use native.Mathlib.Nat.{mod-lt}
use native.Mathlib.Omega.{arith}
use lib.Bits.{bit_and, and_mask}
use lib.Pow.{pow_pos}
use Rattle.wei.specs.declared.label.LabelPair.{LabelPair}
use Rattle.wei.specs.declared.word.Parts.{Parts}
use Rattle.wei.specs.Label.{turn_since, second_label, pair_of}
use Rattle.wei.specs.Word.{packed}
use Rattle.wei.specs.Symbol.{Symbol, first_label, Valid}
use Rattle.wei.proofs.Words.{masked}
use Rattle.wei.proofs.Labels.{second_below}
use Rattle.trellis.specs.Words.{word_parts, word}
use Rattle.picks.specs.Picks.{byte_at, symbol_by, said_of}

pub symbol-valid : (u i3 n k : ℕ) → i3 < 2 → Valid u (symbol_by u i3 n k)
unfolding symbol_by
symbol-valid u i3 n k h =
    record {
      y0-below = omega arith;
      i1-below = omega arith;
      i2-below = omega arith;
      i3-below = h;
      w1-below = mod-lt _ (pow_pos u);
      w2-below = mod-lt _ (pow_pos u);
    }

bit-of : (n : ℕ) → bit_and n 1 ≡ n % 2
bit-of n = and_mask n 1

module _ (u turn i3 n k : ℕ) (l : LabelPair) (hu : u ≤ 8) (h3 : i3 < 2)
    (is : l ≡ pair_of (2 * i3 + bit_and k 1) (second_label (2 * i3 + bit_and k 1) (bit_and (k / 4) 1) (bit_and (k / 2) 1))) where
  abbrev c : Symbol
  c = symbol_by u i3 n k

  first-is : l.first ≡ first_label c
  unfolding symbol_by
  first-is = ap (λ (p : LabelPair). p.first) is ∙ rw (bit-of k)

  second_is : l.second ≡ second_label (first_label c) c.y0 c.i1
  unfolding symbol_by
  second_is = ap (λ (p : LabelPair). p.second) is ∙ rw (bit-of k, bit-of (k / 4), bit-of (k / 2))

  pub last-below : l.second < 4
  last-below = rw second_is (second_below (first_label c) c.y0 c.i1)

  i1-is : bit_and (k / 2) 1 ≡ c.i1
  unfolding symbol_by
  i1-is = bit-of (k / 2)

  module _ (x y d : ℕ) (ex : x ≡ byte_at n l.first) (ey : y ≡ byte_at n (4 + l.second)) (turned : d ≡ turn_since turn l.first) where
    w1-is : bit_and x (1 * 2 ^ u % 2 ^ 32 - 1) ≡ c.w1
    unfolding symbol_by
    w1-is = masked x u hu ∙ ap (λ (m : ℕ). m % 2 ^ u) (ex ∙ ap (byte_at n) first-is)

    w2-is : bit_and y (1 * 2 ^ u % 2 ^ 32 - 1) ≡ c.w2
    unfolding symbol_by
    w2-is = masked y u hu ∙ ap (λ (m : ℕ). m % 2 ^ u) (ey ∙ ap (λ (m : ℕ). byte_at n (4 + m)) second_is)

    abbrev parts : Parts
    parts = record { i1 = bit_and (k / 2) 1; i2 = bit_and d 1; i3 = d / 2; w1 = bit_and x (1 * 2 ^ u % 2 ^ 32 - 1); w2 = bit_and y (1 * 2 ^ u % 2 ^ 32 - 1) }

    turn_is : d ≡ turn_since turn (first_label c)
    turn_is = turned ∙ ap (turn_since turn) first-is

    parts_are : parts ≡ word_parts turn c
    unfolding word_parts
    parts_are = λ i. record { i1 = i1-is i; i2 = (bit-of d ∙ ap (λ (n : ℕ). n % 2) turn_is) i; i3 = ap (λ (n : ℕ). n / 2) turn_is i; w1 = w1-is i; w2 = w2-is i }

    pub said : (w : ℕ) → w ≡ packed u parts → record { word = w; turn = l.first } ≡ said_of u turn c
    unfolding word
    said w e = λ i. record { word = (e ∙ ap (packed u) parts_are) i; turn = first-is i }
