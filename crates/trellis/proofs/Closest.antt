-- Where every received symbol is closest to the symbol sent, the answer is what was sent: another symbol costs more wherever it stands,
-- so every allowed sequence with other symbols has a larger sum, whatever its states.
--   least-only     the sent sequence has the least sum, and any with as small a sum has its symbols
--   closest-answer the answer's symbols are those that were sent
--   closest-words  the answer's words are theirs
--   round_trip     words that a sender made into symbols come back
use mathlib.Core.Path.{◌≡◌, refl, ap, ap₂, ◌∙◌}
use mathlib.Core.Bool.{true}
use mathlib.Core.List.{List, [], ◌∷◌, ◌++◌, reverse}
use Prim.Native.Nat.{ℕ, ◌+◌, ◌≤◌, ◌<◌}
use native.Mathlib.Omega.{arith}
use lib.Dec.{T}
use Rattle.wei.specs.Word.{is_word}
use Rattle.wei.specs.Symbol.{Symbol, AllowedFrom, symbols_from}
use Rattle.trellis.specs.Lists.{Every}
use Rattle.trellis.specs.Code.{Code, Path, begin, step, symbols, Allowed, cost}
use Rattle.trellis.specs.Best.{Answer}
use Rattle.trellis.specs.Measure.{Start, may_start, GoodStart, Measure, wei_code}
use Rattle.trellis.specs.Same.{same_symbol}
use Rattle.trellis.specs.Pick.{Choice, Chooses, wei_search}
use Rattle.trellis.specs.Words.{words, as_heard}
use Rattle.trellis.specs.Said.{answer_words}
use Rattle.trellis.proofs.Onward.{some-answer}
use Rattle.trellis.proofs.WeiLaws.{wei-laws, wei-onward}
use Rattle.trellis.proofs.Words.{symbols-allowed, words-heard}
use Rattle.trellis.proofs.Spoken.{answer-words}
use Rattle.trellis.specs.Along.{Along, Closest}
use Rattle.trellis.proofs.Sent.{AlongPath, sent-path}

module _ (u : ℕ) (M : Measure) (b : Start) where
  open M use {Heard, far}

  abbrev K : Code
  K = wei_code u M b

  pub least-only : (ys : List Heard) (p q : Path Symbol) → Allowed (wei_code u M b) ys p → Allowed (wei_code u M b) ys q → AlongPath (Closest u M) ys q →
      (cost (wei_code u M b) ys q ≤ cost (wei_code u M b) ys p) × (cost (wei_code u M b) ys p ≤ cost (wei_code u M b) ys q → symbols p ≡ symbols q)
  least-only [] (begin s) (begin t) a k h = (omega arith, λ _. refl)
  least-only [] (begin s) (step q d t) a k h = absurd k
  least-only [] (step p c s) q a k h = absurd a
  least-only (y ∷ ys) (begin s) q a k h = absurd a
  least-only (y ∷ ys) (step p c s) (begin t) a k h = absurd k
  least-only (y ∷ ys) (step p c s) (step q d t) a k h = go (least-only ys p q a.2 k.2 h.1) (same_symbol c d)
    where
      go : (cost K ys q ≤ cost K ys p) × (cost K ys p ≤ cost K ys q → symbols p ≡ symbols q) → Dec (c ≡ d) →
          (cost K ys q + far y d ≤ cost K ys p + far y c) × (cost K ys p + far y c ≤ cost K ys q + far y d → symbols p ++ (c ∷ []) ≡ symbols q ++ (d ∷ []))
      go (l, i) (yes e) =
          let z : far y c ≡ far y d = ap (far y) e in
          (omega arith, λ m. ap₂ (λ (r : List Symbol) (x : Symbol). r ++ (x ∷ [])) (i (omega arith)) e)
      go (l, i) (no n) = let z : far y d < far y c = h.0 c a.1.valid n in (omega arith, λ m. absurd (omega arith))

  pub closest-answer : (s : ℕ) → s < 16 → T (may_start b s) → (xs : List Heard) (cs : List Symbol) → Along (Closest u M) xs cs → AllowedFrom u s cs →
      (p : Path Symbol) → Answer (wei_code u M b) (reverse xs) p → symbols p ≡ cs
  closest-answer s h t xs cs k a p A =
      let q = sent-path u M b (Closest u M) s h t xs cs k a in
      (least-only (reverse xs) p q.path A.allowed q.allowed q.along).1 (A.least q.path q.allowed).by-sum ∙ q.symbols-are

module _ (u : ℕ) (M : Measure) (H : Choice M) (C : Chooses u M H) (b : Start) (g : GoodStart b) (s : ℕ) (h : s < 16) (t : T (may_start b s)) where
  open M use {Heard}

  pub closest-words : (xs : List Heard) (cs : List Symbol) → Along (Closest u M) xs cs → AllowedFrom u s cs → answer_words u M H b (reverse xs) ≡ words u b cs
  closest-words xs cs k a =
      let (p, A) = some-answer (wei_search u M H same_symbol b) (wei-laws u M H C same_symbol b) (wei-onward u M b g) (reverse xs) in
      answer-words u M H C b g xs p A ∙ ap (words u b) (closest-answer u M b s h t xs cs k a p A)

  -- the words of a sender that starts in s
  pub round_trip : (xs : List Heard) (ns : List ℕ) → Every (λ n. is_word u n ≡ true) ns → Along (Closest u M) xs (symbols_from u s 0 ns) → answer_words u M H b (reverse xs) ≡ as_heard b ns
  round_trip xs ns w k = closest-words xs (symbols_from u s 0 ns) k (symbols-allowed u s 0 ns) ∙ words-heard u b s ns w
