-- What Wei's receiver says, for any measure and any choice that obeys `Chooses`, with a free start or a named one. In the order of
-- time: xs is what was heard, the oldest first, and zs what comes after it.
--   spoken-longest   what is spoken are the words of the longest common beginning, whichever list that is
--   answer-words     the answer's words are the words of the answer, whichever sequence that is
--   spoken-answer    what is spoken of xs begins the answer's words for xs and then zs
--   spoken-reach, spoken-pending    how many words are spoken; they always lack the newest
--   spoken-below, answer-below      every word has 3 + 2u bits
use mathlib.Core.Path.{◌≡◌, refl, sym, ap, subst}
use mathlib.Core.Bool.{true}
use mathlib.Core.List.{List, [], ◌∷◌, ◌++◌, reverse, reverse-append, IsPrefix}
use Prim.Native.Nat.{ℕ, ◌+◌, ◌*◌, ◌^◌, ◌≤◌, ◌<◌}
use native.Mathlib.Omega.{arith}
use lib.ListN.{length}
use Rattle.trellis.specs.Lists.{Every}
use Rattle.trellis.specs.Code.{Code, Path, symbols, Onward}
use Rattle.trellis.specs.Best.{Answer, Longest}
use Rattle.trellis.specs.Search.{Search, Laws}
use Rattle.trellis.specs.Common.{reach}
use Rattle.trellis.specs.Speak.{spoken}
use Rattle.trellis.specs.Measure.{Start, GoodStart, Measure, wei_code}
use Rattle.trellis.specs.Same.{same_symbol}
use Rattle.trellis.specs.Pick.{Choice, Chooses, wei_search}
use Rattle.trellis.specs.Words.{word, turn_after, first_turn, words}
use Rattle.trellis.specs.Said.{spoken_words, answer_words}
use Rattle.trellis.proofs.Common.{reach-le}
use Rattle.trellis.proofs.Onward.{some-answer}
use Rattle.trellis.proofs.Speak.{spoken-length, answered-is, spoken-grows, spoken-final}
use Rattle.trellis.proofs.Theorems.{T4-only}
use Rattle.trellis.proofs.WeiLaws.{wei-laws, wei-onward}
use Rattle.trellis.proofs.IvEight.{allowed-valid}
use Rattle.trellis.proofs.Paths.{allowed-runs}
use Rattle.trellis.proofs.Newest.{newest-kept}
use Rattle.trellis.proofs.Words.{words_are, every-word}
use Rattle.wei.specs.Word.{is_word}
use Rattle.wei.specs.Symbol.{Symbol, Valid}

every-prefix : {A : Type 0} (P : A → Type 0) (l m : List A) → IsPrefix l m → Every P m → Every P l
every-prefix P l m (r, e) h = front l (subst (Every P) (sym e) h)
  where
    front : (l : List _) → Every P (l ++ r) → Every P l
    front [] h = tt
    front (a ∷ l) h = (h.0, front l h.1)

module _ (u : ℕ) (M : Measure) (H : Choice M) (C : Chooses u M H) (b : Start) (g : GoodStart b) where
  open M use {Heard}

  abbrev K : Code
  K = wei_code u M b

  abbrev S : Search (wei_code u M b)
  S = wei_search u M H same_symbol b

  laws : Laws (wei_search u M H same_symbol b)
  laws = wei-laws u M H C same_symbol b

  on : Onward (wei_code u M b)
  on = wei-onward u M b g

  -- ── what the words are ──
  pub spoken-longest : (xs : List Heard) (l : List Symbol) → Longest (wei_code u M b) (reverse xs) l → spoken_words u M H b (reverse xs) ≡ words u b l
  unfolding spoken_words spoken
  spoken-longest xs l h = ap (words u b) (sym (T4-only S laws on xs l h))

  pub answer-words : (xs : List Heard) (p : Path Symbol) → Answer (wei_code u M b) (reverse xs) p → answer_words u M H b (reverse xs) ≡ words u b (symbols p)
  unfolding answer_words
  answer-words xs p a = answered-is S laws (word u) turn_after (first_turn b) (reverse xs) p a

  -- ── newest first ──
  pub grows : (zs ys : List Heard) → IsPrefix (spoken_words u M H b ys) (spoken_words u M H b (zs ++ ys))
  unfolding spoken_words
  grows zs ys = spoken-grows S laws (word u) turn_after (first_turn b) on zs ys

  pub final : (zs ys : List Heard) → IsPrefix (spoken_words u M H b ys) (answer_words u M H b (zs ++ ys))
  unfolding spoken_words answer_words
  final zs ys = spoken-final S laws (word u) turn_after (first_turn b) on zs ys

  -- ── in the order of time ──
  pub spoken-answer : (xs zs : List Heard) → IsPrefix (spoken_words u M H b (reverse xs)) (answer_words u M H b (reverse (xs ++ zs)))
  spoken-answer xs zs = subst (λ (ys : List Heard). IsPrefix (spoken_words u M H b (reverse xs)) (answer_words u M H b ys)) (sym (reverse-append xs zs)) (final (reverse zs) (reverse xs))

  -- ── how many ──
  pub spoken-reach : (ys : List Heard) → length (spoken_words u M H b ys) ≡ reach (wei_search u M H same_symbol b) ys
  unfolding spoken_words
  spoken-reach ys = spoken-length S laws (word u) turn_after (first_turn b) ys

  pub spoken-pending : (y : Heard) (ys : List Heard) → length (spoken_words u M H b (y ∷ ys)) ≤ length ys
  spoken-pending y ys = omega (arith, spoken-reach (y ∷ ys), newest-kept u M H C same_symbol b g y ys)

  pub spoken-none : spoken_words u M H b [] ≡ []
  spoken-none = none (spoken_words u M H b []) (omega (arith, spoken-reach [], reach-le S laws []))
    where
      none : (l : List ℕ) → length l ≤ 0 → l ≡ []
      none [] h = refl
      none (n ∷ l) h = absurd (omega arith)

  -- ── each has 3 + 2u bits ──
  answer-valid : (ys : List Heard) (p : Path Symbol) → Answer K ys p → Every (Valid u) (symbols p)
  answer-valid ys p a = let r = allowed-runs u M b ys p a.allowed in allowed-valid u r.from (symbols p) r.allowed

  pub answer-are : (ys : List Heard) → Every (λ n. is_word u n ≡ true) (answer_words u M H b ys)
  unfolding answer_words
  answer-are ys =
      let (p, a) = some-answer S laws on ys in
      subst (Every (λ n. is_word u n ≡ true)) (sym (answered-is S laws (word u) turn_after (first_turn b) ys p a)) (words_are u (first_turn b) (symbols p) (answer-valid ys p a))

  pub spoken-are : (ys : List Heard) → Every (λ n. is_word u n ≡ true) (spoken_words u M H b ys)
  spoken-are ys = every-prefix (λ n. is_word u n ≡ true) (spoken_words u M H b ys) (answer_words u M H b ys) (final [] ys) (answer-are ys)

  pub answer-below : (ys : List Heard) → Every (λ n. n < 2 ^ (3 + 2 * u)) (answer_words u M H b ys)
  answer-below ys = every-word u (answer_words u M H b ys) (answer-are ys)

  pub spoken-below : (ys : List Heard) → Every (λ n. n < 2 ^ (3 + 2 * u)) (spoken_words u M H b ys)
  spoken-below ys = every-word u (spoken_words u M H b ys) (spoken-are ys)
