-- What a receiver has been told, and what it owes for it, in the words of 01 and over lists alone: no arrays, rings or masks. Symbols
-- stand newest first, so that "one symbol more" is `y ∷ ys`. What is spoken and answered is fixed by the theory: the words of the
-- longest common beginning, and the words of the answer.
--   code_of, words_of   the code of a line, and the words of its symbols
--   Told              the opening's accord, window and start, and the symbols taken
--   with_heard t ys    the same opening, and the symbols ys
--   speaker_of t       what is spoken of a list of symbols, and its answer
--   pending_after t ys how many symbols of ys are taken and not released
--   fault_of y         the place of the first coordinate out of range, 0 to 3; 4 if there is none. fault_at h, of one point: 0, 1; 2
--   judge_of t         what is said to a symbol, heard after ys with room for so many words: 5, 6, 8 in this order, or 0
--   Fine t            a history that calls can tell: no symbol of it was one to refuse
use Rattle.std.specs.Prelude.{ℕ, ◌+◌, ◌-◌, ◌≤◌, ◌≡◌, true, cond, List, [], ◌∷◌, eqb, ltb, length}
use Rattle.wei.specs.Symbol.{Symbol}
use Rattle.points.specs.declared.Accord.{Accord}
use Rattle.points.specs.Agreed.{is_accord}
use Rattle.calls.specs.Calls.{Speaker, Judge, fresh}
use Rattle.trellis.specs.Code.{Code}
use Rattle.trellis.specs.Measure.{Start, GoodStart, Two, wei_code}
use Rattle.trellis.specs.Words.{words}
use Rattle.trellis.specs.Said.{spoken_words, answer_words}
use Rattle.nearest.specs.declared.Received.{Received}
use Rattle.nearest.specs.declared.Received.TheVariants.{Heard, Missing}
use Rattle.nearest.specs.Line.{is_coordinate, BothInRange, line_measure, line_choice}
use Rattle.reasons.specs.Reason.{Reason, reason}

-- the code of a line of the accord k, where the start is b, and the words of its symbols
abbrev pub code_of : Accord → Start → Code
code_of k b = wei_code k.u (line_measure k) b

abbrev pub words_of : Accord → Start → List Symbol → List ℕ
words_of k b cs = words k.u b cs

pub record Told : Type 0 where
  pub accord : Accord
  pub window : ℕ
  pub start : Start
  pub heard : List (Two Received)

abbrev pub with_heard : Told → List (Two Received) → Told
with_heard t ys = record { accord = t.accord; window = t.window; start = t.start; heard = ys }

abbrev pub speaker_of : Told → Speaker
speaker_of t =
    record {
      Y = Two Received;
      W = ℕ;
      spoken = spoken_words t.accord.u (line_measure t.accord) (line_choice t.accord) t.start;
      answered = answer_words t.accord.u (line_measure t.accord) (line_choice t.accord) t.start;
    }

-- "Taken and not yet released symbols are pending"
abbrev pub pending_after : Told → List (Two Received) → ℕ
pending_after t ys = length ys - length ((speaker_of t).spoken ys)

-- "a missing point is never a 5" (02, Wish 4)
unfoldable pub fault_at : Received → ℕ
fault_at (Heard s) = cond (is_coordinate s.x) (cond (is_coordinate s.y) 2 1) 0
fault_at Missing = 2

-- "which of the four coordinates was first at fault"
unfoldable pub fault_of : Two Received → ℕ
fault_of y = cond (ltb (fault_at y.first) 2) (fault_at y.first) (2 + fault_at y.second)

-- "The order of checks becomes 5, 6, 8" (02, Wish 6)
unfoldable pub judge_symbol : Told → List (Two Received) → Two Received → ℕ → Reason
judge_symbol t ys y room =
    cond (ltb (fault_of y) 4) (record { number = 5; place = fault_of y })
    (cond (ltb t.window (pending_after t (y ∷ ys))) (reason 6)
    (cond (ltb room (length (fresh (speaker_of t) ys y))) (reason 8)
    (reason 0)))

abbrev pub judge_of : (t : Told) → Judge (speaker_of t)
judge_of t = record { R = Reason; judge = judge_symbol t; good = λ r. eqb r.number 0; done = reason 0 }

-- each symbol was good, and the window held what was pending after it
abbrev pub FineList : Told → List (Two Received) → Type 0
FineList t [] = Unit {0}
FineList t (y ∷ ys) = BothInRange y × (pending_after t (y ∷ ys) ≤ t.window) × FineList t ys

pub record Fine (t : Told) : Type 0 where
  pub agreed : is_accord t.accord ≡ true
  pub some-window : 1 ≤ t.window
  pub small-window : t.window ≤ 64
  pub good_start : GoodStart t.start
  pub each : FineList t t.heard
