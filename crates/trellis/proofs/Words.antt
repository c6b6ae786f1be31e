-- Words and symbols. The words of valid symbols have 3 + 2u bits; and from one state and one turn, the words of the symbols of words
-- are the words, and the symbols of the words of allowed symbols are the symbols.
--   words_are, every-word    each word has no bit at or above 3 + 2u
--   symbols-allowed          the symbols of words are allowed from the sender's state
--   words_back               words of the symbols of words
--   symbols-back             symbols of the words of symbols
--   words-heard              the words of a sender, as they come back from a clean line; heard-take, a beginning of them
--   first-turn               the turn before the first symbol is one, or is not known
use mathlib.Core.Path.{◌≡◌, refl, sym, ap, ap₂, subst, ◌∙◌}
use mathlib.Core.Bool.{true}
use mathlib.Core.List.{List, [], ◌∷◌}
use Prim.Native.Nat.{ℕ, zero, suc, ◌+◌, ◌-◌, ◌≤◌, ◌*◌, ◌/◌, ◌%◌, ◌^◌, ◌<◌}
use native.Mathlib.Omega.{arith}
use borrow.Author.Tests.{ltb-true}
use lib.ListN.{take}
use Rattle.trellis.specs.Lists.{Every}
use Rattle.trellis.specs.Speak.{speak}
use Rattle.trellis.specs.Measure.{Start, free, named}
use Rattle.trellis.specs.Words.{word_parts, word, words_from, first_turn, words, cleared, as_heard}
use Rattle.wei.specs.declared.word.Parts.{Parts}
use Rattle.wei.specs.Word.{is_word, unpacked, packed, InRange}
use Rattle.wei.specs.Label.{turn_of, turn_on, unknown, turn_since}
use Rattle.wei.specs.State.{bit_w4, next_state}
use Rattle.wei.specs.Symbol.{Symbol, first_label, Valid, AllowedFrom, symbol_of, symbols_from}
use Rattle.wei.proofs.Finite.{equal2, equal3}
use Rattle.wei.proofs.Labels.{since-below}
use Rattle.wei.proofs.Words.{pack-unpack, unpack-pack, parts-range, packed-below}

module _ (u : ℕ) where
  -- ── one word ──
  parts_in : (q : ℕ) (c : Symbol) → Valid u c → InRange u (word_parts q c)
  unfolding word_parts
  parts_in q c v = record { i1-below = v.i1-below; i2-below = omega arith; i3-below = omega (arith, since-below q (first_label c)); w1-below = v.w1-below; w2-below = v.w2-below }

  pub word-is : (q : ℕ) (c : Symbol) → Valid u c → is_word u (word u q c) ≡ true
  unfolding word
  word-is q c v = packed-below u (word_parts q c) (parts_in q c v)

  -- a word fixes its parts
  word-parts : (q : ℕ) (c : Symbol) → Valid u c → unpacked u (word u q c) ≡ word_parts q c
  unfolding word
  word-parts q c v = unpack-pack u (word_parts q c) (parts_in q c v)

  -- ── one symbol of a word, and back ──
  turn-forth : (q f : ℕ) → q < 4 → f < 4 → turn_on q (turn_since q f % 2) (turn_since q f / 2) ≡ f
  turn-forth = equal2 4 4 (λ q f. turn_on q (turn_since q f % 2) (turn_since q f / 2)) (λ q f. f) tt

  turn_low : (q i j : ℕ) → q < 4 → i < 2 → j < 2 → turn_since q (turn_of (turn_on q i j % 2) (turn_on q i j / 2)) % 2 ≡ i
  turn_low = equal3 4 2 2 (λ q i j. turn_since q (turn_of (turn_on q i j % 2) (turn_on q i j / 2)) % 2) (λ q i j. i) tt

  turn-high : (q i j : ℕ) → q < 4 → i < 2 → j < 2 → turn_since q (turn_of (turn_on q i j % 2) (turn_on q i j / 2)) / 2 ≡ j
  turn-high = equal3 4 2 2 (λ q i j. turn_since q (turn_of (turn_on q i j % 2) (turn_on q i j / 2)) / 2) (λ q i j. j) tt

  label-below : (c : Symbol) → Valid u c → first_label c < 4
  label-below c v = omega (arith, v.i2-below, v.i3-below)

  pub symbol-valid : (s q n : ℕ) → Valid u (symbol_of u s q n)
  unfolding symbol_of
  symbol-valid s q n =
      let r = parts-range u n in
      record { y0-below = omega arith; i1-below = r.i1-below; i2-below = omega arith; i3-below = omega arith; w1-below = r.w1-below; w2-below = r.w2-below }

  symbol-parity : (s q n : ℕ) → (symbol_of u s q n).y0 ≡ bit_w4 s
  unfolding symbol_of
  symbol-parity s q n = refl

  pub word_back : (s q n : ℕ) → q < 4 → is_word u n ≡ true → word u q (symbol_of u s q n) ≡ n
  unfolding word word_parts symbol_of
  word_back s q n h t =
      let p = unpacked u n in
      let r = parts-range u n in
      let e : word_parts q (symbol_of u s q n) ≡ p =
      λ i. record { i1 = p.i1; i2 = turn_low q p.i2 p.i3 h r.i2-below r.i3-below i; i3 = turn-high q p.i2 p.i3 h r.i2-below r.i3-below i; w1 = p.w1; w2 = p.w2 } in
      ap (packed u) e ∙ pack-unpack u n t

  pub symbol-back : (s q : ℕ) (c : Symbol) → q < 4 → Valid u c → c.y0 ≡ bit_w4 s → symbol_of u s q (word u q c) ≡ c
  unfolding symbol_of word_parts
  symbol-back s q c h v e =
      let f = first_label c in
      let z : unpacked u (word u q c) ≡ word_parts q c = word-parts q c v in
      let r : turn_on q (unpacked u (word u q c)).i2 (unpacked u (word u q c)).i3 ≡ f = ap (λ (p : Parts). turn_on q p.i2 p.i3) z ∙ turn-forth q f h (label-below c v) in
      let z₂ : f % 2 ≡ c.i2 = omega (arith, v.i2-below) in
      let z₃ : f / 2 ≡ c.i3 = omega (arith, v.i2-below) in
      λ i. record {
        y0 = sym e i;
        i1 = ap (λ (p : Parts). p.i1) z i;
        i2 = (ap (λ (x : ℕ). x % 2) r ∙ z₂) i;
        i3 = (ap (λ (x : ℕ). x / 2) r ∙ z₃) i;
        w1 = ap (λ (p : Parts). p.w1) z i;
        w2 = ap (λ (p : Parts). p.w2) z i;
      }

  -- ── lists ──
  pub words_are : (q : ℕ) (cs : List Symbol) → Every (Valid u) cs → Every (λ n. is_word u n ≡ true) (words_from u q cs)
  unfolding speak
  words_are q [] v = tt
  words_are q (c ∷ cs) v = (word-is q c v.0, words_are (first_label c) cs v.1)

  pub every-word : (ns : List ℕ) → Every (λ n. is_word u n ≡ true) ns → Every (λ n. n < 2 ^ (3 + 2 * u)) ns
  every-word [] w = tt
  every-word (n ∷ ns) w = (subst (λ (k : ℕ). n < 2 ^ k) (let e : 3 + u + u ≡ 3 + 2 * u = omega arith in e) (ltb-true n (2 ^ (3 + u + u)) w.0), every-word ns w.1)

  pub symbols-allowed : (s q : ℕ) (ns : List ℕ) → AllowedFrom u s (symbols_from u s q ns)
  unfolding symbols_from
  symbols-allowed s q [] = tt
  symbols-allowed s q (n ∷ ns) =
      let c = symbol_of u s q n in
      (record { valid = symbol-valid s q n; parity = symbol-parity s q n; leads = refl }, symbols-allowed (next_state s c.i1 c.i2) (first_label c) ns)

  pub words_back : (s q : ℕ) (ns : List ℕ) → q < 4 → Every (λ n. is_word u n ≡ true) ns → words_from u q (symbols_from u s q ns) ≡ ns
  unfolding speak symbols_from
  words_back s q [] h w = refl
  words_back s q (n ∷ ns) h w =
      let c = symbol_of u s q n in
      ap₂ (λ (x : ℕ) (l : List ℕ). x ∷ l) (word_back s q n h w.0) (words_back (next_state s c.i1 c.i2) (first_label c) ns (label-below c (symbol-valid s q n)) w.1)

  pub symbols-back : (s q : ℕ) (cs : List Symbol) → q < 4 → AllowedFrom u s cs → symbols_from u s q (words_from u q cs) ≡ cs
  unfolding speak symbols_from
  symbols-back s q [] h a = refl
  symbols-back s q (c ∷ cs) h a =
      let e : symbol_of u s q (word u q c) ≡ c = symbol-back s q c h a.0.valid a.0.parity in
      ap (λ (d : Symbol). d ∷ symbols_from u (next_state s d.i1 d.i2) (first_label d) (words_from u (first_label c) cs)) e
      ∙ ap (λ (l : List Symbol). c ∷ l) (symbols-back (next_state s c.i1 c.i2) (first_label c) cs (label-below c a.0.valid) a.1)

-- ── a clean line ──
module _ (u : ℕ) where
  clear-parts : (n a b c d : ℕ) → a ≡ n % 2 → b ≡ n / 2 % 2 → c ≡ n / 4 % 2 → a + 2 * b + 4 * c + 8 * d ≡ n → a + 2 * 0 + 4 * 0 + 8 * d ≡ n - 2 * (n / 2 % 4)
  clear-parts n a b c d e f g h = omega arith

  word-cleared : (s q n : ℕ) → is_word u n ≡ true → word u unknown (symbol_of u s q n) ≡ cleared n
  unfolding word word_parts symbol_of packed unpacked
  word-cleared s q n t =
      let p = unpacked u n in
      clear-parts n p.i1 p.i2 p.i3 (p.w1 + 2 ^ u * p.w2) refl refl refl (pack-unpack u n t)

  -- the words of a sender that starts in s with the turn 0, as they come back
  pub words-heard : (b : Start) (s : ℕ) (ns : List ℕ) → Every (λ n. is_word u n ≡ true) ns → words u b (symbols_from u s 0 ns) ≡ as_heard b ns
  unfolding speak symbols_from
  words-heard (named m) s ns w = words_back u s 0 ns (omega arith) w
  words-heard free s [] w = refl
  words-heard free s (n ∷ ns) w =
      let c = symbol_of u s 0 n in
      ap₂ (λ (x : ℕ) (l : List ℕ). x ∷ l) (word-cleared s 0 n w.0) (words_back u (next_state s c.i1 c.i2) (first_label c) ns (label-below u c (symbol-valid u s 0 n)) w.1)

-- a beginning of what was sent comes back as a beginning
pub heard-take : (b : Start) (m : ℕ) (ns : List ℕ) → as_heard b (take m ns) ≡ take m (as_heard b ns)
heard-take (named k) m ns = refl
heard-take free zero ns = refl
heard-take free (suc m) [] = refl
heard-take free (suc m) (n ∷ ns) = refl

pub first-turn : (b : Start) → first_turn b ≤ 4
first-turn free = omega arith
first-turn (named n) = omega arith
