-- The words that are due: what the code reads off its two numbers.
--   none-given, got             whether a word is left, by the code's tests; due_below: one that is left was given
--   answer-refused, answer-took   what the receiver's answer does
--   missing-is, nothing-due     what is due before a symbol or a finish
use mathlib.Core.Path.{◌≡◌, refl, sym, ap, ◌∙◌}
use mathlib.Core.Bool.{Bool, true, false}
use mathlib.Core.List.{List, [], ◌∷◌}
use Prim.Native.Nat.{ℕ, ◌+◌, ◌≤◌, ◌<◌}
use native.Mathlib.Omega.{arith}
use borrow.Author.Tests.{ltb-true, ltb-false}
use lib.Dec.{ltb}
use lib.ListN.{length, take, get_or, length-take, drop_of_length-le}
use lib.Seq.{drop-cons, get_or-take}
use Rattle.std.proofs.Common.{Some, None}
use Rattle.std.specs.List.{slice_get}
use Rattle.std.specs.Prelude.{Result, ⊤}
use Rattle.std.proofs.lemmas.Option.{slice_get-get_or, slice_get_past}
use Rattle.machine.specs.declared.Core.{Core}
use Rattle.reasons.specs.declared.Why.{Why}
use Rattle.reasons.specs.Reason.{given_of, is_done}
use Rattle.records.specs.Frames.{capped}
use Rattle.replay_judge.specs.declared.Judge.{Judge}
use Rattle.replay_judge.specs.declared.Verdict.TheVariants.{Missing, Refused}
use Rattle.replay_judge.specs.Judging.{State, left, first_due, ruled, answered_by, faulted, unless_due}

next-none : (h : ℕ) → Some h ≡ None → ⊥
next-none h e = let z : ◌≡◌ {A = ℕ} 0 1 = cc in omega arith

module _ (shown given : ℕ) (due : List ℕ) where
  gone : length (take given due) ≤ shown → None ≡ first_due (left shown given due)
  unfolding left first_due
  gone h = rw (drop_of_length-le (take given due) {i = shown} h)

  pub none-given : given ≤ shown → None ≡ first_due (left shown given due)
  none-given h = gone (omega (arith, length-take given due))

  none-there : length due ≤ shown → None ≡ first_due (left shown given due)
  none-there h = gone (omega (arith, length-take given due))

  pub due_below : (h : ℕ) → first_due (left shown given due) ≡ Some h → shown < given
  due_below h e = go (ltb shown given) refl
    where
      go : (b : Bool) → ltb shown given ≡ b → shown < given
      go true k = ltb-true shown given k
      go false k = absurd (next-none h (sym e ∙ sym (none-given (ltb-false shown given k))))

  some_left : shown < given → shown < length due → Some (get_or due shown 0) ≡ first_due (left shown given due)
  unfolding left first_due
  some_left h l = rw (drop-cons (take given due) shown 0 (omega (arith, length-take given due)), get_or-take given due shown 0 h)

  pub got : shown < given → slice_get due shown ≡ first_due (left shown given due)
  got h = go (ltb shown (length due)) refl
    where
      go : (b : Bool) → ltb shown (length due) ≡ b → slice_get due shown ≡ first_due (left shown given due)
      go true k = let l : shown < length due = ltb-true shown (length due) k in slice_get-get_or due shown 0 l ∙ some_left h l
      go false k = let l : length due ≤ shown = ltb-false shown (length due) k in slice_get_past due shown l ∙ none-there l

module _ (j : Judge) (why : Result ⊤ Why) (live : Bool) (core : Core) (given n : ℕ) where
  pub answer-refused : (r : Judge) → is_done why ≡ false → n ≡ (given_of why).number → r ≡ ruled j (Refused j.records n) → r ≡ answered_by j why live core given
  unfolding answered_by
  answer-refused r e m z = rw e (z ∙ ap (λ (k : ℕ). ruled j (Refused j.records k)) m)

  pub answer-took : is_done why ≡ true → n ≡ capped (j.records + 1)
      → record { live = live; core = core; given = given; shown = 0; records = n; verdict = j.verdict } ≡ answered_by j why live core given
  unfolding answered_by
  answer-took e z = rw (e, z)

module _ (s n : State) where
  pub missing-is : (l : List ℕ) (h : ℕ) → first_due l ≡ Some h → faulted s (Missing s.records h) ≡ unless_due s l n
  unfolding first_due unless_due
  missing-is [] h e = absurd (next-none h (sym e))
  missing-is (k ∷ hs) h e = let i : k ≡ h = cc in rw i

  pub nothing-due : (l : List ℕ) → first_due l ≡ None → n ≡ unless_due s l n
  unfolding first_due unless_due
  nothing-due [] e = refl
  nothing-due (k ∷ hs) e = absurd (next-none k e)
