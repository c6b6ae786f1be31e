-- Demand 3 over any list of calls, for any measure: what `calls` says of anything that speaks and answers, said of Wei's receiver
-- in the words of specs/Best. Whichever calls refuse, and for whatever reasons: the words written so far are those of the longest
-- common beginning for the symbols taken; they begin the answer's words for these symbols followed by any others; joined with a
-- finish that succeeds they are the answer's words whole.
--   wei_speaker   the receiver as something that speaks and answers
--   wei-speaks   it obeys the laws
--   exact, final, whole   the three parts of the demand, over every list of calls, in the order of time
use mathlib.Core.Path.{◌≡◌, subst, ◌∙◌}
use mathlib.Core.Bool.{true, false}
use mathlib.Core.List.{List, [], ◌∷◌, ◌++◌, reverse, IsPrefix}
use Prim.Native.Nat.{ℕ}
use Rattle.trellis.specs.Code.{Path, symbols}
use Rattle.trellis.specs.Best.{Answer, Longest}
use Rattle.trellis.specs.Measure.{Start, GoodStart, Measure, wei_code}
use Rattle.trellis.specs.Pick.{Choice, Chooses}
use Rattle.trellis.specs.Words.{words}
use Rattle.trellis.specs.Said.{spoken_words, answer_words}
use Rattle.trellis.proofs.Spoken
use Rattle.wei.specs.Symbol.{Symbol}
use Rattle.calls.specs.Calls.{Speaker, Speaks, Judge, Call, run}
use Rattle.calls.proofs.Theorems as calls

abbrev pub wei_speaker : (u : ℕ) (M : Measure) (H : Choice M) (b : Start) → Speaker
wei_speaker u M H b = record { Y = M.Heard; W = ℕ; spoken = spoken_words u M H b; answered = answer_words u M H b }

module _ (u : ℕ) (M : Measure) (H : Choice M) (C : Chooses u M H) (b : Start) (g : GoodStart b) where
  pub wei-speaks : Speaks (wei_speaker u M H b)
  wei-speaks = record { starts = Spoken.spoken-none u M H C b g; grows = λ ys y. Spoken.grows u M H C b g (y ∷ []) ys; within = Spoken.final u M H C b g [] }

  module _ (J : Judge (wei_speaker u M H b)) (ks : List (Call (wei_speaker u M H b))) where
    pub exact : let c = run (wei_speaker u M H b) J ks in c.line.is_open ≡ true →
        (l : List Symbol) → Longest (wei_code u M b) (reverse c.took) l → c.said ≡ words u b l
    exact o l h = calls.exact-in-time (wei_speaker u M H b) wei-speaks J ks o ∙ Spoken.spoken-longest u M H C b g (run (wei_speaker u M H b) J ks).took l h

    pub final : let c = run (wei_speaker u M H b) J ks in c.line.is_open ≡ true →
        (zs : List M.Heard) (p : Path Symbol) → Answer (wei_code u M b) (reverse (c.took ++ zs)) p → IsPrefix c.said (words u b (symbols p))
    final o zs p a =
        let c = run (wei_speaker u M H b) J ks in
        subst (IsPrefix c.said) (Spoken.answer-words u M H C b g (c.took ++ zs) p a) (calls.final-in-time (wei_speaker u M H b) wei-speaks J ks o zs)

    pub whole : let c = run (wei_speaker u M H b) J ks in c.line.is_open ≡ false →
        (p : Path Symbol) → Answer (wei_code u M b) (reverse c.took) p → c.said ≡ words u b (symbols p)
    whole o p a = calls.whole-in-time (wei_speaker u M H b) wei-speaks J ks o ∙ Spoken.answer-words u M H C b g (run (wei_speaker u M H b) J ks).took p a
