-- The words of symbols that were kept: each is the word sent, spoiled. I2 and I3 are measured from the symbol before, so bit 2 is unsure for the word
-- after a symbol that was missing whole too; I2' of that symbol is right, and so is bit 1.
--   Turns lost q r     two turns before a word: the same, or where the symbol before was missing whole, the same modulo 2
--   words_back         words of kept symbols
--   as-sent            a word whose symbol is whole, after one that was not missing whole, is not spoiled
--   back_more          more words may have been sent; back-front, fewer may have come back
use mathlib.Core.Path.{◌≡◌, refl, sym, ap, ap₂, subst, ◌∙◌}
use mathlib.Core.Bool.{Bool, true, false, cond, ◌||◌}
use mathlib.Core.List.{List, [], ◌∷◌, ◌++◌, IsPrefix}
use Prim.Native.Nat.{ℕ, ◌+◌, ◌*◌, ◌/◌, ◌%◌, ◌<◌}
use native.Mathlib.Omega.{arith}
use borrow.Author.Tests.{ne_eqb}
use lib.Dec.{T, eqb}
use lib.ListN.{length, take}
use Rattle.wei.specs.declared.word.Parts.{Parts}
use Rattle.wei.specs.Word.{is_word, unpacked, packed}
use Rattle.wei.specs.Label.{unknown, turn_since}
use Rattle.wei.specs.Symbol.{Symbol, first_label, Valid}
use Rattle.wei.proofs.Finite.{equal2}
use Rattle.wei.proofs.Labels.{since-below}
use Rattle.wei.proofs.Words.{pack-unpack, unpack-pack}
use Rattle.trellis.specs.Lists.{Every}
use Rattle.trellis.specs.Speak.{speak}
use Rattle.trellis.specs.Measure.{Two}
use Rattle.trellis.specs.Words.{word_parts, word, words_from}
use Rattle.nearest.specs.declared.Received.{Received}
use Rattle.nearest.specs.declared.Received.TheVariants.{Heard, Missing}
use Rattle.nearest.specs.Found.{heard_as}
use Rattle.promises.proofs.Points.{first_below}
use Rattle.dropouts.specs.Gaps.{is_missing, is_whole, lost_both}
use Rattle.dropouts.specs.Spoiled.{spoiled, CameBack}
use Rattle.dropouts.proofs.Beside.{Beside}
use Rattle.dropouts.proofs.States.{Kept}

pub record Turns (lost : Bool) (q r : ℕ) : Type 0 where
  pub q-below : q < 5
  pub r-below : r < 5
  pub known : eqb q unknown ≡ eqb r unknown
  pub parity : q % 2 ≡ r % 2
  pub same : lost ≡ false → q ≡ r

pub one-turn : (q : ℕ) → q < 5 → Turns false q q
one-turn q h = record { q-below = h; r-below = h; known = refl; parity = refl; same = λ _. refl }

-- bit 1 goes by the parities of the two turns
since-parity : (q f : ℕ) → q < 5 → f < 4 → turn_since q f % 2 ≡ cond (eqb q unknown) 0 ((q + f) % 2)
since-parity = equal2 5 4 (λ q f. turn_since q f % 2) (λ q f. cond (eqb q unknown) 0 ((q + f) % 2)) tt

odd-sum : (q r f g : ℕ) → q % 2 ≡ r % 2 → f % 2 ≡ g % 2 → (q + f) % 2 ≡ (r + g) % 2
odd-sum q r f g a b = omega arith

or_left : (a b : Bool) → a || b ≡ false → a ≡ false
or_left true b e = e
or_left false b e = refl

or_right : (a b : Bool) → a || b ≡ false → b ≡ false
or_right true b e = absurd (let z : ◌≡◌ {A = ℕ} 0 1 = cc in omega arith)
or_right false b e = e

pick : (b : Bool) (m n : ℕ) → (b ≡ false → m ≡ n) → m ≡ cond b m n
pick true m n e = refl
pick false m n e = e refl

module _ (u : ℕ) where
  label-parity : (c : Symbol) → first_label c % 2 ≡ c.i2 % 2
  label-parity c = omega arith

  module _ (x : Two Received) (c d : Symbol) (v : Valid u c) (w : Valid u d) (k : Kept x c d) where
    labels-parity : first_label c % 2 ≡ first_label d % 2
    labels-parity = label-parity c ∙ ap (λ (i : ℕ). i % 2) k.i2-same ∙ sym (label-parity d)

    labels-same : lost_both x ≡ false → first_label c ≡ first_label d
    labels-same e = ap₂ (λ (i j : ℕ). 2 * j + i) k.i2-same (k.i3-same e)

    -- the turns after this symbol
    turns-on : Turns (lost_both x) (first_label c) (first_label d)
    turns-on =
        let a = first_below u c v in
        let b = first_below u d w in
        record {
          q-below = omega arith;
          r-below = omega arith;
          known = ne_eqb (first_label c) unknown (λ e. omega arith) ∙ sym (ne_eqb (first_label d) unknown (λ e. omega arith));
          parity = labels-parity;
          same = labels-same;
        }

    parts-of : (r : ℕ) → unpacked u (word u r d) ≡ word_parts r d
    unfolding word word_parts
    parts-of r =
        unpack-pack u (word_parts r d)
        (record { i1-below = w.i1-below; i2-below = omega arith; i3-below = omega (arith, since-below r (first_label d)); w1-below = w.w1-below; w2-below = w.w2-below })

    word-spoiled : (lost : Bool) (q r : ℕ) → Turns lost q r → (i : ℕ) × (i < 2) × (word u q c ≡ spoiled u (lost || lost_both x) x i (word u r d))
    unfolding word word_parts
    word-spoiled lost q r t = (i, omega (arith, since-below q (first_label c)), ap (packed u) parts ∙ ap (λ (p : Parts). packed u (spoil p)) (sym (parts-of r)))
      where
        i : ℕ
        i = turn_since q (first_label c) / 2

        spoil : Parts → Parts
        spoil p =
            record {
              i1 = p.i1;
              i2 = p.i2;
              i3 = cond (lost || lost_both x) i p.i3;
              w1 = cond (is_missing x.first) 0 p.w1;
              w2 = cond (is_missing x.second) 0 p.w2;
            }

        bit-one : turn_since q (first_label c) % 2 ≡ turn_since r (first_label d) % 2
        bit-one =
            since-parity q (first_label c) t.q-below (first_below u c v)
            ∙ ap₂ (λ (b : Bool) (n : ℕ). cond b 0 n) t.known (odd-sum q r (first_label c) (first_label d) t.parity labels-parity)
            ∙ sym (since-parity r (first_label d) t.r-below (first_below u d w))

        bit-two : i ≡ cond (lost || lost_both x) i (turn_since r (first_label d) / 2)
        bit-two =
            pick (lost || lost_both x) i (turn_since r (first_label d) / 2)
            (λ e. ap₂ (λ (m n : ℕ). turn_since m n / 2) (t.same (or_left lost (lost_both x) e)) (labels-same (or_right lost (lost_both x) e)))

        parts : word_parts q c ≡ spoil (word_parts r d)
        parts = λ j. record { i1 = k.i1-same j; i2 = bit-one j; i3 = bit-two j; w1 = k.w1-is j; w2 = k.w2-is j }

  pub words_back : (lost : Bool) (q r : ℕ) → Turns lost q r → (xs : List (Two Received)) (cs ds : List Symbol) → Every (Valid u) cs → Every (Valid u) ds → Beside Kept xs cs ds →
      CameBack u lost xs (words_from u r ds) (words_from u q cs)
  unfolding speak
  words_back lost q r t [] [] [] v w k = tt
  words_back lost q r t [] [] (d ∷ ds) v w k = absurd k
  words_back lost q r t [] (c ∷ cs) ds v w k = absurd k
  words_back lost q r t (x ∷ xs) [] ds v w k = absurd k
  words_back lost q r t (x ∷ xs) (c ∷ cs) [] v w k = absurd k
  words_back lost q r t (x ∷ xs) (c ∷ cs) (d ∷ ds) v w k = (
    word-spoiled x c d v.0 w.0 k.0 lost q r t,
    words_back (lost_both x) (first_label c) (first_label d) (turns-on x c d v.0 w.0 k.0) xs cs ds v.1 w.1 k.1,
  )

  -- a whole symbol, and the one before it not missing whole: the word is the word sent
  pub as-sent : (r : Two Received) (i n : ℕ) → T (is_whole r) → is_word u n ≡ true → spoiled u (false || lost_both r) r i n ≡ n
  as-sent r i n t h = go r.first r.second t
    where
      go : (a b : Received) → T (is_whole (heard_as a b)) → spoiled u (false || lost_both (heard_as a b)) (heard_as a b) i n ≡ n
      go (Heard f) (Heard g) t = pack-unpack u n h
      go (Heard f) Missing t = absurd t
      go Missing (Heard g) t = absurd t
      go Missing Missing t = absurd t

  pub back_more : (lost : Bool) (xs : List (Two Received)) (ns ws : List ℕ) → CameBack u lost xs (take (length xs) ns) ws → CameBack u lost xs ns ws
  back_more lost [] ns [] h = tt
  back_more lost [] ns (w ∷ ws) h = absurd h
  back_more lost (x ∷ xs) [] ws h = absurd h
  back_more lost (x ∷ xs) (n ∷ ns) [] h = absurd h
  back_more lost (x ∷ xs) (n ∷ ns) (w ∷ ws) h = (h.0, back_more (lost_both x) xs ns ws h.1)

  -- the first words of those that came back
  pub back-front : (lost : Bool) (xs : List (Two Received)) (ns ws vs : List ℕ) → IsPrefix ws vs → CameBack u lost xs ns vs → CameBack u lost (take (length ws) xs) ns ws
  back-front lost xs ns ws vs (r, e) h = front lost xs ns ws r (subst (CameBack u lost xs ns) (sym e) h)
    where
      front : (lost : Bool) (xs : List (Two Received)) (ns ws r : List ℕ) → CameBack u lost xs ns (ws ++ r) → CameBack u lost (take (length ws) xs) ns ws
      front lost xs ns [] r h = tt
      front lost [] ns (w ∷ ws) r h = absurd h
      front lost (x ∷ xs) [] (w ∷ ws) r h = absurd h
      front lost (x ∷ xs) (n ∷ ns) (w ∷ ws) r h = (h.0, front (lost_both x) xs ns ws r h.1)
