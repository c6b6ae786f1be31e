-- What a quarter turn does to words with a free start. Words come from the differences of turns, and all turns gain 1, so I1, I2 and I3
-- stay; the first word's turn is not known before and not after. Where numbers stay too, so do the words.
--   Kept tw u f    a turn leaves the words of valid symbols as they are, seen through f
--   low-kept       their I1, I2 and I3
--   words-kept     all of them, where it leaves the numbers
use mathlib.Core.Path.{◌≡◌, refl, ap, ap₂, ◌∙◌}
use mathlib.Core.Bool.{cond}
use mathlib.Core.List.{List, [], ◌∷◌, map}
use Prim.Native.Nat.{ℕ, ◌+◌, ◌/◌, ◌%◌, ◌<◌}
use native.Mathlib.Omega.{arith}
use lib.Dec.{eqb}
use Rattle.wei.specs.declared.word.Parts.{Parts}
use Rattle.wei.specs.Word.{packed}
use Rattle.wei.specs.Label.{unknown, turn_since}
use Rattle.wei.specs.Symbol.{Symbol, first_label, Valid}
use Rattle.wei.proofs.Finite.{equal1, equal2}
use Rattle.trellis.specs.Lists.{Every}
use Rattle.trellis.specs.Speak.{speak}
use Rattle.trellis.specs.Measure.{free}
use Rattle.trellis.specs.Words.{word_parts, word, words_from, words}
use Rattle.turn_meaning.specs.Same.{three_bits}
use Rattle.turn_meaning.proofs.Wei.{symbol_turned, label-below, first-turned}

-- a turn that is not known stays so
turn_turned : ℕ → ℕ
turn_turned q = cond (eqb q unknown) unknown ((q + 1) % 4)

since-kept : (q l : ℕ) → q < 5 → l < 4 → turn_since (turn_turned q) ((l + 1) % 4) ≡ turn_since q l
unfolding turn_turned
since-kept = equal2 5 4 (λ q l. turn_since (turn_turned q) ((l + 1) % 4)) turn_since tt

known-turned : (l : ℕ) → l < 4 → (l + 1) % 4 ≡ turn_turned l
unfolding turn_turned
known-turned = equal1 4 (λ l. (l + 1) % 4) turn_turned tt

module _ (tw : ℕ → ℕ) (u : ℕ) where
  -- ---- one word

  since-turned : (q : ℕ) (c : Symbol) → q < 5 → Valid u c →
      turn_since (turn_turned q) (first_label (symbol_turned tw c)) ≡ turn_since q (first_label c)
  since-turned q c h v = ap (turn_since (turn_turned q)) (first-turned tw c) ∙ since-kept q (first_label c) h (label-below u c v)

  abbrev WordKept : (ℕ → ℕ) → Type 0
  WordKept f = (q : ℕ) (c : Symbol) → q < 5 → Valid u c → f (word u (turn_turned q) (symbol_turned tw c)) ≡ f (word u q c)

  parts_low : (p r : Parts) → p.i1 ≡ r.i1 → p.i2 ≡ r.i2 → p.i3 ≡ r.i3 → three_bits (packed u p) ≡ three_bits (packed u r)
  unfolding packed
  parts_low p r e f g = omega arith

  word_low : WordKept three_bits
  unfolding word word_parts symbol_turned
  word_low q c h v =
      let e = since-turned q c h v in
      parts_low (word_parts (turn_turned q) (symbol_turned tw c)) (word_parts q c) refl (ap (λ (t : ℕ). t % 2) e) (ap (λ (t : ℕ). t / 2) e)

  word_kept : ((w : ℕ) → tw w ≡ w) → WordKept (λ n. n)
  unfolding word word_parts symbol_turned
  word_kept same q c h v =
      let e = since-turned q c h v in
      ap (packed u) (λ i. record { i1 = c.i1; i2 = e i % 2; i3 = e i / 2; w1 = same c.w1 i; w2 = same c.w2 i })

  -- ---- all words

  abbrev pub Kept : (ℕ → ℕ) → Type 0
  Kept f = (cs : List Symbol) → Every (Valid u) cs → map f (words u free (map (symbol_turned tw) cs)) ≡ map f (words u free cs)

  from-kept : (f : ℕ → ℕ) → WordKept f → (q : ℕ) (cs : List Symbol) → q < 5 → Every (Valid u) cs →
      map f (words_from u (turn_turned q) (map (symbol_turned tw) cs)) ≡ map f (words_from u q cs)
  unfolding speak
  from-kept f one q [] h v = refl
  from-kept f one q (c ∷ cs) h v =
      let l = label-below u c v.0 in
      let t : first_label (symbol_turned tw c) ≡ turn_turned (first_label c) = first-turned tw c ∙ known-turned (first_label c) l in
      ap₂ (λ (x : ℕ) (ws : List ℕ). x ∷ ws) (one q c h v.0)
      (ap (λ (r : ℕ). map f (words_from u r (map (symbol_turned tw) cs))) t ∙ from-kept f one (first_label c) cs (omega arith) v.1)

  pub low-kept : Kept three_bits
  unfolding turn_turned
  low-kept cs v = from-kept three_bits word_low unknown cs (omega arith) v

  pub words-kept : ((w : ℕ) → tw w ≡ w) → Kept (λ n. n)
  unfolding turn_turned
  words-kept same cs v = from-kept (λ n. n) (word_kept same) unknown cs (omega arith) v
