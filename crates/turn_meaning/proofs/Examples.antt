-- Computed lines that show what the condition is for, and what is not claimed, at the code's own free start.
--   halfway        two symbols, the first point heard halfway between A and C: two symbol sequences are nearest
--   words-differ   a quarter turn gives other words
--   several        so the condition does not hold there
--   eight          eight symbols (A,A)
--   fewer-released   after a quarter turn fewer words are released
--   w-changes      on the square map w changes, and I1, I2 and I3 stay
use mathlib.Core.Path.{◌≡◌, refl, sym, ap, ◌∙◌}
use mathlib.Core.List.{List, [], ◌∷◌, map, reverse}
use Prim.Native.Nat.{ℕ}
use native.Mathlib.Omega.{arith}
use lib.IntN.{ℤ, pos, neg_ℤ}
use lib.ListN.{get_or, replicate}
use Rattle.wei.specs.Word.{packed}
use Rattle.wei.specs.State.{next_state, before, carry_i1, carry_i2}
use Rattle.wei.specs.Label.{second_label}
use Rattle.wei.specs.Symbol.{Symbol, last_label}
use Rattle.points.specs.declared.Accord.{Accord}
use Rattle.points.specs.declared.Map.TheVariants.{Square}
use Rattle.points.specs.Agreed.{of_width}
use Rattle.points.specs.Points.{coordinates, a_point}
use Rattle.points.specs.Turn.{point_of}
use Rattle.maps.specs.SquareMap.{grid_point, square_of}
use Rattle.trellis.specs.Code.{Path}
use Rattle.trellis.specs.Best.{Surv, absent}
use Rattle.trellis.specs.Choose.{better, choose}
use Rattle.trellis.specs.Search.{Search, Laws, range}
use Rattle.trellis.specs.Common.{lcp, lcps, live}
use Rattle.trellis.specs.Speak.{speak, symbols_in, spoken, answered}
use Rattle.trellis.specs.Measure.{free, Two, counted, first_far, second_far, far_of}
use Rattle.trellis.specs.Same.{same_symbol}
use Rattle.trellis.specs.Pick.{least, near, gap_of, type_sum, best_i3, best_of, wei_search}
use Rattle.trellis.specs.Words.{word_parts, word}
use Rattle.trellis.specs.Said.{spoken_words, answer_words}
use Rattle.trellis.proofs.Rows.{row, answer-row, common-row}
use Rattle.trellis.proofs.WeiLaws.{wei-laws}
use Rattle.distance.specs.Distance.{distance}
use Rattle.nearest.specs.declared.Received.{Received}
use Rattle.nearest.specs.declared.Received.TheVariants.{Heard}
use Rattle.nearest.specs.Line.{line_distance, line_measure, line_choice}
use Rattle.nearest.proofs.Laws.{line-chooses}
use Rattle.receiver_meaning.specs.Told.{code_of, words_of}
use Rattle.turn_meaning.specs.Alone.{Alone}
use Rattle.turn_meaning.specs.Turned.{turned_by}
use Rattle.turn_meaning.proofs.Line.{answer_of, answer-turned}

module _ (ac : Accord) where
  S : Search (code_of ac free)
  S = wei_search ac.u (line_measure ac) (line_choice ac) same_symbol free

  laws : Laws S
  unfolding S
  laws = wei-laws ac.u (line_measure ac) (line_choice ac) (line-chooses ac) same_symbol free

  -- what is final of the symbols xs, in the order of time
  abbrev pub spoken_of : List (Two Received) → List ℕ
  spoken_of xs = spoken_words ac.u (line_measure ac) (line_choice ac) free (reverse xs)

  -- the best sequences into all states
  bests : List (Two Received) → ℕ → Surv (Path Symbol)
  unfolding S
  bests xs s = get_or (row S (reverse xs)) s absent

  spoken-is : (xs : List (Two Received)) (ws : List ℕ) →
      words_of ac free (lcps same_symbol (live (bests xs) (range 0 16))) ≡ ws → spoken_of xs ≡ ws
  unfolding S bests spoken_words spoken
  spoken-is xs ws e = ap (words_of ac free) (common-row S laws (reverse xs)) ∙ e

  answer-is : (xs : List (Two Received)) (ws : List ℕ) →
      words_of ac free (symbols_in (choose (bests xs) (range 0 16))) ≡ ws → answer_of ac xs ≡ ws
  unfolding S bests answer_words answered
  answer-is xs ws e = ap (λ (o : Surv (Path Symbol)). words_of ac free (symbols_in o)) (answer-row S laws (reverse xs)) ∙ e

abbrev heard : ℤ → ℤ → ℤ → ℤ → Two Received
heard a b c d = record { first = Heard (record { x = a; y = b }); second = Heard (record { x = c; y = d }) }

-- halfway between A and C, then A; then C, then B
abbrev pub halfway : List (Two Received)
halfway = heard (pos 128) (pos 0) (pos 128) (pos 128) ∷ heard (pos 128) (neg_ℤ (pos 128)) (neg_ℤ (pos 128)) (neg_ℤ (pos 128)) ∷ []

abbrev pub eight : List (Two Received)
eight = replicate 8 (heard (pos 128) (pos 128) (pos 128) (pos 128))

pub words-differ : (answer_of (of_width 0) halfway ≡ 1 ∷ 0 ∷ []) × (answer_of (of_width 0) (map (turned_by 1) halfway) ≡ 0 ∷ 2 ∷ [])
unfolding S bests lcps lcp live row choose better range counted far_of first_far second_far best_of best_i3 type_sum gap_of near least line_distance
    distance next_state last_label second_label before carry_i1 carry_i2 point_of a_point coordinates same_symbol speak word word_parts packed
words-differ = (answer-is (of_width 0) halfway (1 ∷ 0 ∷ []) refl, answer-is (of_width 0) (map (turned_by 1) halfway) (0 ∷ 2 ∷ []) refl)

pub several : Alone (code_of (of_width 0) free) (reverse halfway) → ⊥
several A =
    let z : ◌≡◌ {A = List ℕ} (0 ∷ 2 ∷ []) (1 ∷ 0 ∷ []) = sym words-differ.1 ∙ answer-turned (of_width 0) refl 1 halfway A ∙ words-differ.0 in
    let n : ◌≡◌ {A = ℕ} 0 1 = cc in
    omega arith

pub fewer-released : (spoken_of (of_width 0) eight ≡ replicate 3 0) × (spoken_of (of_width 0) (map (turned_by 1) eight) ≡ replicate 1 0)
unfolding S bests lcps lcp live row choose better range counted far_of first_far second_far best_of best_i3 type_sum gap_of near least line_distance
    distance next_state last_label second_label before carry_i1 carry_i2 point_of a_point coordinates same_symbol speak word word_parts packed
fewer-released = (spoken-is (of_width 0) eight (replicate 3 0) refl, spoken-is (of_width 0) (map (turned_by 1) eight) (replicate 1 0) refl)

-- ---- the square map

abbrev pub once : List (Two Received)
once = heard (pos 128) (pos 128) (pos 128) (pos 128) ∷ []

abbrev squared : Accord
squared = record { map = Square; u = 2 }

pub w-changes : (answer_of squared once ≡ 0 ∷ []) × (answer_of squared (map (turned_by 1) once) ≡ 40 ∷ [])
unfolding S bests lcps lcp live row choose better range counted far_of first_far second_far best_of best_i3 type_sum gap_of near least line_distance
    distance next_state last_label second_label before carry_i1 carry_i2 square_of grid_point same_symbol speak word word_parts packed
w-changes = (answer-is squared once (0 ∷ []) refl, answer-is squared (map (turned_by 1) once) (40 ∷ []) refl)
