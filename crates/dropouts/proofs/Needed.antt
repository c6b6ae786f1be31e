-- Something like the rule is needed, and what is called spoiled is. Lines of width 0, clean but for dropouts, computed: what comes back after a finish,
-- whatever the window and however the line is cut into calls.
--   heard_with ms ns     what is heard of a fresh sender's words ns where nothing disturbs them and points are missing by the marks ms
--   Gives b ms ns ws    after a finish it comes back as ws, where the start is b
--   Loses b ms ns ws    the same, and other bits are wrong than the spoiled ones
--   alternating         marks 1 2 0 1 1: two dropouts of one point in a row, and two again, and five words are wrong
--   every-second        marks 3 0 3 0 3 0 3: one whole symbol after each dropout of both points is too little
--   at-the-end          mark 1: nor may the line end with a dropout
--   three-whole         with a free start marks 0 0 0 1 0: three whole symbols do not fix the state
--   bit-two             marks 3 0 0: the rule is kept, and bit 2 is wrong in that word and in the next
use mathlib.Core.Path.{◌≡◌, refl, ap, ◌∙◌}
use mathlib.Core.Bool.{true, false}
use mathlib.Core.List.{List, [], ◌∷◌, reverse}
use Prim.Native.Nat.{ℕ, ◌+◌, ◌*◌}
use native.Mathlib.Omega.{arith}
use lib.ListN.{get_or}
use Rattle.wei.specs.Word.{packed, unpacked}
use Rattle.wei.specs.State.{next_state, before, carry_i1, carry_i2}
use Rattle.wei.specs.Label.{second_label}
use Rattle.wei.specs.Symbol.{last_label, symbol_of, symbols_from}
use Rattle.points.specs.Agreed.{of_width}
use Rattle.points.specs.Points.{coordinates, a_point}
use Rattle.points.specs.Turn.{point_of}
use Rattle.maps.specs.PointMap.{first_at, second_at}
use Rattle.trellis.specs.Best.{Surv, absent}
use Rattle.trellis.specs.Choose.{better, choose}
use Rattle.trellis.specs.Search.{Search, Laws, range}
use Rattle.trellis.specs.Speak.{speak, symbols_in, answered}
use Rattle.trellis.specs.Measure.{Two, counted, first_far, second_far, far_of}
use Rattle.trellis.specs.Same.{same_symbol}
use Rattle.trellis.specs.Pick.{least, near, gap_of, type_sum, best_i3, best_of, wei_search}
use Rattle.trellis.specs.Words.{word_parts, word, as_heard}
use Rattle.trellis.specs.Said.{answer_words}
use Rattle.trellis.proofs.Rows.{row, answer-row}
use Rattle.trellis.proofs.WeiLaws.{wei-laws}
use Rattle.distance.specs.Distance.{distance}
use Rattle.nearest.specs.declared.Received.{Received}
use Rattle.nearest.specs.Line.{line_distance, line_measure, line_choice}
use Rattle.nearest.proofs.Laws.{line-chooses}
use Rattle.receiver_meaning.specs.Told.{code_of, words_of}
use Rattle.receiver_meaning.specs.Piece.{symbols_with}
use Rattle.openings.specs.declared.Start.{Start}
use Rattle.openings.specs.declared.Start.TheVariants.{Free, At}
use Rattle.openings.specs.Given.{start_of}
use Rattle.sender.specs.Send.{four}
use Rattle.sender.specs.Run as sender
use Rattle.promises.specs.Talk.{Ended}
use Rattle.promises.specs.Clean.{all_on_line}
use Rattle.promises.proofs.Follows.{answers}
use Rattle.dropouts.specs.Gaps.{rested}
use Rattle.dropouts.specs.Spoiled.{CameBack}

abbrev pub heard_with : List ℕ → List ℕ → List (Two Received)
heard_with ms ns = symbols_with ms (all_on_line (sender.coordinates_of (of_width 0) (symbols_from 0 0 0 ns)))

abbrev pub Gives : Start → List ℕ → List ℕ → List ℕ → Type 0
Gives b ms ns ws = (w : ℕ) (vs : List ℕ) → Ended (of_width 0) w b (heard_with ms ns) vs → vs ≡ ws

pub record Loses (b : Start) (ms ns ws : List ℕ) : Type 0 where
  pub gives : Gives b ms ns ws
  pub loses : CameBack 0 false (heard_with ms ns) (as_heard (start_of b) ns) ws → ⊥

-- ---- by rows of all states at once

module _ (b : Start) where
  abbrev S : Search (code_of (of_width 0) (start_of b))
  S = wei_search 0 (line_measure (of_width 0)) (line_choice (of_width 0)) same_symbol (start_of b)

  laws : Laws (wei_search 0 (line_measure (of_width 0)) (line_choice (of_width 0)) same_symbol (start_of b))
  laws = wei-laws 0 (line_measure (of_width 0)) (line_choice (of_width 0)) (line-chooses (of_width 0)) same_symbol (start_of b)

  computed : List ℕ → List ℕ → List ℕ
  computed ms ns =
      let best = row S (reverse (heard_with ms ns)) in
      words_of (of_width 0) (start_of b) (symbols_in (choose (λ s. get_or best s absent) (range 0 16)))

  given : (ms ns ws : List ℕ) → computed ms ns ≡ ws → Gives b ms ns ws
  unfolding computed answer_words answered
  given ms ns ws z w vs e =
      answers (of_width 0) w b (heard_with ms ns) vs e ∙ ap (λ (o : Surv _). words_of (of_width 0) (start_of b) (symbols_in o)) (answer-row S laws (reverse (heard_with ms ns))) ∙ z

all-computed : (computed (At 0) (1 ∷ 2 ∷ 0 ∷ 1 ∷ 1 ∷ 0 ∷ 0 ∷ 0 ∷ 0 ∷ []) (0 ∷ 0 ∷ 2 ∷ 0 ∷ 0 ∷ 0 ∷ 0 ∷ 0 ∷ 0 ∷ []) ≡ 5 ∷ 4 ∷ 2 ∷ 5 ∷ 1 ∷ 4 ∷ 0 ∷ 0 ∷ 0 ∷ [])
    × (computed (At 0) (3 ∷ 0 ∷ 3 ∷ 0 ∷ 3 ∷ 0 ∷ 3 ∷ 0 ∷ 0 ∷ 0 ∷ 0 ∷ []) (0 ∷ 0 ∷ 0 ∷ 0 ∷ 2 ∷ 0 ∷ 0 ∷ 0 ∷ 0 ∷ 0 ∷ 0 ∷ []) ≡ 2 ∷ 6 ∷ 1 ∷ 0 ∷ 1 ∷ 2 ∷ 1 ∷ 0 ∷ 0 ∷ 0 ∷ 0 ∷ [])
    × (computed (At 0) (1 ∷ []) (1 ∷ []) ≡ 4 ∷ [])
    × (computed Free (0 ∷ 0 ∷ 0 ∷ 1 ∷ 0 ∷ []) (0 ∷ 0 ∷ 2 ∷ 0 ∷ 0 ∷ []) ≡ 0 ∷ 0 ∷ 2 ∷ 6 ∷ 2 ∷ [])
    × (computed (At 0) (3 ∷ 0 ∷ 0 ∷ []) (4 ∷ 0 ∷ 0 ∷ []) ≡ 0 ∷ 4 ∷ 0 ∷ [])
unfolding computed row choose better range line_distance distance counted far_of first_far second_far best_of best_i3 type_sum gap_of near least symbols_from symbol_of unpacked
    next_state first_at second_at four last_label second_label before carry_i1 carry_i2 point_of a_point coordinates speak word word_parts packed
all-computed = (refl, refl, refl, refl, refl)

-- ---- the lines

-- the first word, 0, comes back as 5
pub alternating : Loses (At 0) (1 ∷ 2 ∷ 0 ∷ 1 ∷ 1 ∷ 0 ∷ 0 ∷ 0 ∷ 0 ∷ []) (0 ∷ 0 ∷ 2 ∷ 0 ∷ 0 ∷ 0 ∷ 0 ∷ 0 ∷ 0 ∷ []) (5 ∷ 4 ∷ 2 ∷ 5 ∷ 1 ∷ 4 ∷ 0 ∷ 0 ∷ 0 ∷ [])
unfolding symbols_from four packed unpacked
alternating = record { gives = given (At 0) _ _ _ all-computed.0; loses = λ h. let e : ◌≡◌ {A = ℕ} 5 0 = h.0.2 in omega arith }

-- the first word, 0, comes back as 2: bit 1 is wrong
pub every-second : Loses (At 0) (3 ∷ 0 ∷ 3 ∷ 0 ∷ 3 ∷ 0 ∷ 3 ∷ 0 ∷ 0 ∷ 0 ∷ 0 ∷ []) (0 ∷ 0 ∷ 0 ∷ 0 ∷ 2 ∷ 0 ∷ 0 ∷ 0 ∷ 0 ∷ 0 ∷ 0 ∷ []) (2 ∷ 6 ∷ 1 ∷ 0 ∷ 1 ∷ 2 ∷ 1 ∷ 0 ∷ 0 ∷ 0 ∷ 0 ∷ [])
unfolding symbols_from four packed unpacked
every-second = record { gives = given (At 0) _ _ _ all-computed.1; loses = λ h. let (i, _, e) = h.0 in let z : 2 ≡ 0 + 2 * 0 + 4 * i + 8 * 0 = e in omega arith }

-- the word 1 comes back as 4
pub at-the-end : Loses (At 0) (1 ∷ []) (1 ∷ []) (4 ∷ [])
unfolding symbols_from four packed unpacked
at-the-end = record { gives = given (At 0) _ _ _ all-computed.2; loses = λ h. let e : ◌≡◌ {A = ℕ} 4 1 = h.0.2 in omega arith }

-- the fourth word, 0, comes back as 6
pub three-whole : Loses Free (0 ∷ 0 ∷ 0 ∷ 1 ∷ 0 ∷ []) (0 ∷ 0 ∷ 2 ∷ 0 ∷ 0 ∷ []) (0 ∷ 0 ∷ 2 ∷ 6 ∷ 2 ∷ [])
unfolding symbols_from four packed unpacked
three-whole = record { gives = given Free _ _ _ all-computed.3; loses = λ h. let e : ◌≡◌ {A = ℕ} 6 0 = h.1.1.1.0.2 in omega arith }

-- by the rule; the words 4 and 0 come back as 0 and 4
pub bit-two : (rested 0 (heard_with (3 ∷ 0 ∷ 0 ∷ []) (4 ∷ 0 ∷ 0 ∷ [])) ≡ true) × Gives (At 0) (3 ∷ 0 ∷ 0 ∷ []) (4 ∷ 0 ∷ 0 ∷ []) (0 ∷ 4 ∷ 0 ∷ [])
unfolding symbols_from four
bit-two = (refl, given (At 0) _ _ _ all-computed.4)
