-- DEMAND 1, numbers 6 and 8, by what is meant and not by how it is found: any list that is the longest common beginning of the best
-- sequences decides. That there is one such list, and one alone, is said beside demand 3 (`some-longest`, `one-longest`).
--   spoken-many   as many words are final as the longest common beginning has symbols
--   six           6 exactly if the window is less than the symbols less that beginning
--   eight         8 exactly if the room is less than what the symbol adds to that beginning
--   finish-eight  8 at a finish exactly if the room is less than the symbols less that beginning: all that are pending
use mathlib.Core.Path.{◌≡◌, sym, ap, subst, ◌∙◌}
use mathlib.Core.List.{List, ◌∷◌, reverse, reverse-reverse}
use mathlib.Core.Logic.{◌↔◌}
use Prim.Native.Nat.{ℕ, ◌-◌, ◌≤◌, ◌<◌}
use native.Mathlib.Omega.{arith}
use lib.ListN.{length, length-drop}
use Rattle.wei.specs.Symbol.{Symbol}
use Rattle.calls.specs.Calls.{fresh}
use Rattle.trellis.specs.Best.{Longest}
use Rattle.trellis.specs.Measure.{GoodStart, Two}
use Rattle.trellis.specs.Words.{word, turn_after, first_turn}
use Rattle.trellis.proofs.Speak.{speak-length}
use Rattle.trellis.proofs.Spoken.{spoken-longest}
use Rattle.nearest.specs.declared.Received.{Received}
use Rattle.nearest.specs.Line.{BothInRange, line_measure, line_choice}
use Rattle.nearest.proofs.Laws.{line-chooses}
use Rattle.reasons.specs.Reason.{Reason, reason}
use Rattle.machine.proofs.Owed.{rest-many, pending-told}
use Rattle.receiver_meaning.specs.Told.{code_of, Told, speaker_of, pending_after, judge_symbol, Fine}
use Rattle.receiver_meaning.specs.Owed.{finish_owed, rest_of}
use Rattle.promises.specs.Table as table
use Rattle.promises.proofs.Numbers.{said-case, said-is, finish-case, finish-is}

module _ (t : Told) (g : GoodStart t.start) where
  abbrev Is : List (Two Received) → List Symbol → Type 0
  Is ys l = Longest (code_of t.accord t.start) ys l

  pub spoken-many : (ys : List (Two Received)) (l : List Symbol) → Is ys l → length ((speaker_of t).spoken ys) ≡ length l
  spoken-many ys l h =
      ap (λ (zs : List (Two Received)). length ((speaker_of t).spoken zs)) (sym (reverse-reverse ys))
      ∙ ap length (spoken-longest t.accord.u (line_measure t.accord) (line_choice t.accord) (line-chooses t.accord) t.start g (reverse ys) l
      (subst (λ (zs : List (Two Received)). Is zs l) (sym (reverse-reverse ys)) h))
      ∙ speak-length turn_after (word t.accord.u) (first_turn t.start) l

  -- 5 has passed
  module _ (ys : List (Two Received)) (y : Two Received) (room : ℕ) (good : BothInRange y) (l : List Symbol) (h : Is (y ∷ ys) l) where
    pending-is : pending_after t (y ∷ ys) ≡ length (y ∷ ys) - length l
    pending-is = omega (arith, spoken-many (y ∷ ys) l h)

    pub six : ((judge_symbol t ys y room).number ≡ 6) ↔ (t.window < length (y ∷ ys) - length l)
    six = (
      λ e. go (judge_symbol t ys y room) (said-case t ys y room) e,
      λ k. ap (λ (r : Reason). r.number) (said-is t ys y room (reason 6) (table.SymbolGives.six good (omega (arith, pending-is)))),
    )
      where
        go : (r : Reason) → table.SymbolGives t ys y room r → r.number ≡ 6 → t.window < length (y ∷ ys) - length l
        go r (table.SymbolGives.five a) e = absurd (omega arith)
        go r (table.SymbolGives.six a b) e = omega (arith, pending-is)
        go r (table.SymbolGives.eight a b c) e = absurd (omega arith)
        go r (table.SymbolGives.taken a b c) e = absurd (omega arith)

    -- 6 has passed too
    module _ (held : length (y ∷ ys) - length l ≤ t.window) (l₀ : List Symbol) (h₀ : Is ys l₀) where
      new_is : length (fresh (speaker_of t) ys y) ≡ length l - length l₀
      new_is = omega (arith, length-drop (length ((speaker_of t).spoken ys)) ((speaker_of t).spoken (y ∷ ys)), spoken-many ys l₀ h₀, spoken-many (y ∷ ys) l h)

      pub eight : ((judge_symbol t ys y room).number ≡ 8) ↔ (room < length l - length l₀)
      eight = (
        λ e. go (judge_symbol t ys y room) (said-case t ys y room) e,
        λ k. ap (λ (r : Reason). r.number) (said-is t ys y room (reason 8) (table.SymbolGives.eight good (omega (arith, pending-is)) (omega (arith, new_is)))),
      )
        where
          go : (r : Reason) → table.SymbolGives t ys y room r → r.number ≡ 8 → room < length l - length l₀
          go r (table.SymbolGives.five a) e = absurd (omega arith)
          go r (table.SymbolGives.six a b) e = absurd (omega arith)
          go r (table.SymbolGives.eight a b c) e = omega (arith, new_is)
          go r (table.SymbolGives.taken a b c) e = absurd (omega arith)

-- "Need for 8: room .. at finish for all pending words"; "Taken and not yet released symbols are pending"
module _ (t : Told) (f : Fine t) (room : ℕ) (l : List Symbol) (h : Longest (code_of t.accord t.start) t.heard l) where
  rest-is : length (rest_of t) ≡ length t.heard - length l
  rest-is = omega (arith, rest-many t f, pending-told t f, spoken-many t f.good_start t.heard l h)

  pub finish-eight : ((finish_owed t room).reason.number ≡ 8) ↔ (room < length t.heard - length l)
  finish-eight = (λ e. go (finish_owed t room).reason.number (finish-case t room) e, λ k. finish-is t room 8 (table.FinishGives.eight (omega (arith, rest-is))))
    where
      go : (n : ℕ) → table.FinishGives t room n → n ≡ 8 → room < length t.heard - length l
      go n (table.FinishGives.eight a) e = omega (arith, rest-is)
      go n (table.FinishGives.done a) e = absurd (omega arith)
