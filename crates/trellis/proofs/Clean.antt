-- On a clean line the answer is what was sent: an allowed sequence that every received symbol lies on has the sum 0, and where no
-- received symbol lies on two symbols it is the only one.
--   one-zero       two sequences of the sum 0 have the same symbols
--   sent-zero      the symbols that were sent are those of a sequence of the sum 0
--   clean-answer   the answer's symbols are those that were sent
--   clean-words    the answer's words are theirs
--   round_trip     words that a sender made into symbols come back
use mathlib.Core.Path.{◌≡◌, refl, sym, ap, ap₂, ◌∙◌}
use mathlib.Core.Bool.{true}
use mathlib.Core.List.{List, [], ◌∷◌, ◌++◌, reverse, reverse-cons, reverse-reverse}
use Prim.Native.Nat.{ℕ, suc, ◌<◌}
use native.Mathlib.Omega.{arith}
use lib.Dec.{T}
use lib.ListN.{length, length-reverse}
use Rattle.trellis.specs.Lists.{Every}
use Rattle.trellis.specs.Code.{Path, begin, step, symbols, Allowed, cost}
use Rattle.trellis.specs.Best.{Answer}
use Rattle.trellis.specs.Measure.{Start, may_start, GoodStart, Measure, wei_code}
use Rattle.trellis.specs.Same.{same_symbol}
use Rattle.trellis.specs.Pick.{Choice, Chooses, wei_search}
use Rattle.trellis.specs.Words.{words, as_heard}
use Rattle.trellis.specs.Said.{answer_words}
use Rattle.trellis.specs.Clean.{Hits, Exact}
use Rattle.trellis.proofs.Lists.{every-reverse}
use Rattle.trellis.proofs.Common.{path-length}
use Rattle.trellis.proofs.Onward.{some-answer}
use Rattle.trellis.proofs.WeiLaws.{wei-laws, wei-onward}
use Rattle.trellis.proofs.Paths.{from-drawn}
use Rattle.trellis.proofs.Words.{symbols-allowed, words-heard}
use Rattle.trellis.proofs.Spoken.{answer-words}
use Rattle.wei.specs.Word.{is_word}
use Rattle.wei.specs.Symbol.{Symbol, AllowedFrom, symbols_from}

module _ (M : Measure) where
  open M use {Heard, far}

  hits-length : (xs : List Heard) (cs : List Symbol) → Hits M xs cs → length xs ≡ length cs
  hits-length [] [] h = refl
  hits-length [] (c ∷ cs) h = absurd h
  hits-length (x ∷ xs) [] h = absurd h
  hits-length (x ∷ xs) (c ∷ cs) h = ap suc (hits-length xs cs h.1)

  -- the last of each
  hits-last : (xs : List Heard) (cs : List Symbol) (x : Heard) (c : Symbol) → length xs ≡ length cs → Hits M (xs ++ (x ∷ [])) (cs ++ (c ∷ [])) → Hits M xs cs × (far x c ≡ 0)
  hits-last [] [] x c l h = (tt, h.0)
  hits-last [] (d ∷ cs) x c l h = absurd (omega arith)
  hits-last (z ∷ xs) [] x c l h = absurd (omega arith)
  hits-last (z ∷ xs) (d ∷ cs) x c l h = let (a, b) = hits-last xs cs x c (omega arith) h.1 in ((h.0, a), b)

module _ (u : ℕ) (M : Measure) (b : Start) where
  open M use {Heard, far}

  sum-zero : (ys : List Heard) (p : Path Symbol) → Allowed (wei_code u M b) ys p → Hits M (reverse ys) (symbols p) → cost (wei_code u M b) ys p ≡ 0
  sum-zero [] p a h = refl
  sum-zero (y ∷ ys) (begin s) a h = absurd a
  sum-zero (y ∷ ys) (step p c s) a h =
      let l : length (reverse ys) ≡ length (symbols p) = length-reverse ys ∙ sym (path-length (wei_code u M b) ys p a.2) in
      let (r, z) = hits-last M (reverse ys) (symbols p) y c l (rw (reverse-cons y ys) at h) in
      omega (arith, sum-zero ys p a.2 r, z)

  pub one-zero : (ys : List Heard) → Every (Exact u M) ys → (p q : Path Symbol) → Allowed (wei_code u M b) ys p → Allowed (wei_code u M b) ys q →
      cost (wei_code u M b) ys p ≡ 0 → cost (wei_code u M b) ys q ≡ 0 → symbols p ≡ symbols q
  one-zero [] E (begin s) (begin t) a k e f = refl
  one-zero [] E (begin s) (step q d t) a k e f = absurd k
  one-zero [] E (step p c s) q a k e f = absurd a
  one-zero (y ∷ ys) E (begin s) q a k e f = absurd a
  one-zero (y ∷ ys) E (step p c s) (begin t) a k e f = absurd k
  one-zero (y ∷ ys) E (step p c s) (step q d t) a k e f =
      ap₂ (λ (l : List Symbol) (x : Symbol). l ++ (x ∷ [])) (one-zero ys E.1 p q a.2 k.2 (omega arith) (omega arith)) (E.0 c d a.1.valid k.1.valid (omega arith) (omega arith))

  pub sent-zero : (s : ℕ) → s < 16 → T (may_start b s) → (xs : List Heard) (cs : List Symbol) → Hits M xs cs → AllowedFrom u s cs →
      (p : Path Symbol) × Allowed (wei_code u M b) (reverse xs) p × (cost (wei_code u M b) (reverse xs) p ≡ 0) × (symbols p ≡ cs)
  sent-zero s h t xs cs k a =
      let d = from-drawn u M b s cs h t a (reverse xs) (length-reverse xs ∙ hits-length M xs cs k) in
      (d.path, d.allowed, sum-zero (reverse xs) d.path d.allowed (rw (reverse-reverse, d.symbols-are) k), d.symbols-are)

  pub clean-answer : (s : ℕ) → s < 16 → T (may_start b s) → (xs : List Heard) (cs : List Symbol) → Every (Exact u M) xs → Hits M xs cs → AllowedFrom u s cs →
      (p : Path Symbol) → Answer (wei_code u M b) (reverse xs) p → symbols p ≡ cs
  clean-answer s h t xs cs E k a p A =
      let (q, c, z, e) = sent-zero s h t xs cs k a in
      let w : cost (wei_code u M b) (reverse xs) p ≡ 0 = omega (arith, (A.least q c).by-sum, z) in
      one-zero (reverse xs) (every-reverse (Exact u M) xs E) p q A.allowed c w z ∙ e

module _ (u : ℕ) (M : Measure) (H : Choice M) (C : Chooses u M H) (b : Start) (g : GoodStart b) (s : ℕ) (h : s < 16) (t : T (may_start b s)) where
  open M use {Heard}

  pub clean-words : (xs : List Heard) (cs : List Symbol) → Every (Exact u M) xs → Hits M xs cs → AllowedFrom u s cs → answer_words u M H b (reverse xs) ≡ words u b cs
  clean-words xs cs E k a =
      let (p, A) = some-answer (wei_search u M H same_symbol b) (wei-laws u M H C same_symbol b) (wei-onward u M b g) (reverse xs) in
      answer-words u M H C b g xs p A ∙ ap (words u b) (clean-answer u M b s h t xs cs E k a p A)

  -- the words of a sender that starts in s
  pub round_trip : (xs : List Heard) → Every (Exact u M) xs → (ns : List ℕ) → Every (λ n. is_word u n ≡ true) ns → Hits M xs (symbols_from u s 0 ns) → answer_words u M H b (reverse xs) ≡ as_heard b ns
  round_trip xs E ns w k = clean-words xs (symbols_from u s 0 ns) E k (symbols-allowed u s 0 ns) ∙ words-heard u b s ns w
