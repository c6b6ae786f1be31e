-- DEMAND 3. "Spoken means final. However the list is cut into calls and whichever calls refuse, the words released so far begin the
-- answer for the symbols taken, and for those symbols followed by any good ones whatever; after each symbol they reach exactly as far
-- as the best sequences into every reachable state agree; joined with a finish that succeeds they are that answer whole."
--
-- `Talk u w b took ws rx` (specs/Talk) is any run of calls from an opening: symbols taken, words written. What the words are is said
-- by `Longest` and `Answer` (trellis/specs/Best): the longest common beginning of the best sequences into every reachable state, and
-- the allowed sequence with the least sum, ties by 01's order. Lists are in the order of time.
--   some-longest, one-longest   there is a longest common beginning, and one alone
--   exact     the words written reach exactly as far as the best sequences agree
--   final     they begin the answer for the symbols taken followed by any others, and so the answer for those taken
--   whole     with a finish that succeeds they are the answer whole
use mathlib.Core.Path.{◌≡◌, sym, subst, ◌∙◌}
use mathlib.Core.List.{List, ◌++◌, reverse, IsPrefix}
use Prim.Native.Nat.{ℕ}
use Rattle.points.specs.declared.Accord.{Accord}
use Rattle.trellis.specs.Code.{Path, symbols}
use Rattle.trellis.specs.Best.{Answer, Longest}
use Rattle.trellis.specs.Measure.{Two, GoodStart}
use Rattle.trellis.specs.Measure as measure
use Rattle.trellis.specs.Same.{same_symbol}
use Rattle.trellis.specs.Pick.{wei_search}
use Rattle.trellis.proofs.Theorems.{T4, T4-only}
use Rattle.trellis.proofs.WeiLaws.{wei-laws, wei-onward}
use Rattle.trellis.specs.Said.{spoken_words}
use Rattle.trellis.proofs.Spoken as spoken
use Rattle.wei.specs.Symbol.{Symbol}
use Rattle.nearest.specs.declared.Received.{Received}
use Rattle.nearest.proofs.Laws.{line-chooses}
use Rattle.nearest.specs.Line.{line_measure, line_choice}
use Rattle.openings.specs.Opening.{Receiver}
use Rattle.openings.specs.declared.Start.{Start}
use Rattle.openings.specs.Given.{start_of}
use Rattle.promises.specs.Talk.{Talk, Ended}
use Rattle.promises.proofs.Follows.{follows, answers, start-of}
use Rattle.receiver_meaning.specs.Told.{code_of, words_of}

module _ (ac : Accord) (b : measure.Start) (g : GoodStart b) (took : List (Two Received)) where
  pub some-longest : (l : List Symbol) × Longest (code_of ac b) (reverse took) l
  some-longest = (
    _,
    T4 (wei_search ac.u (line_measure ac) (line_choice ac) same_symbol b) (wei-laws ac.u (line_measure ac) (line_choice ac) (line-chooses ac) same_symbol b)
        (wei-onward ac.u (line_measure ac) b g) took,
  )

  pub one-longest : (l m : List Symbol) → Longest (code_of ac b) (reverse took) l → Longest (code_of ac b) (reverse took) m → l ≡ m
  one-longest l m h k =
      let only =
      T4-only (wei_search ac.u (line_measure ac) (line_choice ac) same_symbol b) (wei-laws ac.u (line_measure ac) (line_choice ac) (line-chooses ac) same_symbol b)
      (wei-onward ac.u (line_measure ac) b g) took in
      only l h ∙ sym (only m k)

module _ (ac : Accord) (w : ℕ) (b : Start) (took : List (Two Received)) (ws : List ℕ) where
  pub exact : (rx : Receiver) → Talk ac w b took ws rx → (l : List Symbol) → Longest (code_of ac (start_of b)) (reverse took) l → ws ≡ words_of ac (start_of b) l
  exact rx k l h =
      let f = follows ac w b took ws rx k in
      f.said ∙ spoken.spoken-longest ac.u (line_measure ac) (line_choice ac) (line-chooses ac) (start_of b) f.fine.good_start took l h

  pub final : (rx : Receiver) → Talk ac w b took ws rx → (zs : List (Two Received)) (p : Path Symbol) → Answer (code_of ac (start_of b)) (reverse (took ++ zs)) p →
      IsPrefix ws (words_of ac (start_of b) (symbols p))
  final rx k zs p a =
      let f = follows ac w b took ws rx k in
      let g = f.fine.good_start in
      rw f.said
      (subst (IsPrefix (spoken_words ac.u (line_measure ac) (line_choice ac) (start_of b) (reverse took)))
      (spoken.answer-words ac.u (line_measure ac) (line_choice ac) (line-chooses ac) (start_of b) g (took ++ zs) p a)
      (spoken.spoken-answer ac.u (line_measure ac) (line_choice ac) (line-chooses ac) (start_of b) g took zs))

  pub whole : Ended ac w b took ws → (p : Path Symbol) → Answer (code_of ac (start_of b)) (reverse took) p → ws ≡ words_of ac (start_of b) (symbols p)
  whole k p a =
      answers ac w b took ws k
      ∙ spoken.answer-words ac.u (line_measure ac) (line_choice ac) (line-chooses ac) (start_of b) (start-of ac w b took ws k) took p a
