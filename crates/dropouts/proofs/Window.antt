-- No window is wide enough for every line with dropouts: what is pending is bounded on a line where every point is heard near enough, and it is not where
-- points are missing, though the line is clean and the rule is kept. A line of width 0 with start 0, all words 0, that misses the second point of every
-- second symbol, computed: of its first 66 symbols none is final. So a receiver, whatever its window, has refused one of them with 6, and that none is
-- refused is a premise of the theorem on dropouts.
--   repeated n l     n times the list l
--   dropping         the line: what is heard of 66 words 0 with the marks 2 0 2 0 ..
--   keeps-the-rule   after each dropout comes a whole symbol
--   none-final       nothing of it is released
--   no-window        no receiver takes all of it
use mathlib.Core.Path.{◌≡◌, refl, ap, ◌∙◌}
use mathlib.Core.Bool.{true}
use mathlib.Core.List.{List, [], ◌∷◌, ◌++◌, reverse}
use Prim.Native.Nat.{ℕ, zero, suc, ◌≤◌}
use native.Mathlib.Omega.{arith}
use lib.ListN.{length, get_or, replicate, length-reverse}
use Rattle.wei.specs.Word.{packed, unpacked}
use Rattle.wei.specs.State.{next_state, before, carry_i1, carry_i2}
use Rattle.wei.specs.Label.{second_label}
use Rattle.wei.specs.Symbol.{last_label, symbol_of, symbols_from}
use Rattle.points.specs.Agreed.{of_width}
use Rattle.points.specs.Points.{coordinates, a_point}
use Rattle.points.specs.Turn.{point_of}
use Rattle.maps.specs.PointMap.{first_at, second_at}
use Rattle.trellis.specs.Best.{absent}
use Rattle.trellis.specs.Choose.{better, choose}
use Rattle.trellis.specs.Search.{Search, Laws, range}
use Rattle.trellis.specs.Common.{lcp, lcps, live}
use Rattle.trellis.specs.Speak.{speak, spoken}
use Rattle.trellis.specs.Measure.{named, Two, counted, first_far, second_far, far_of}
use Rattle.trellis.specs.Same.{same_symbol}
use Rattle.trellis.specs.Pick.{least, near, gap_of, type_sum, best_i3, best_of, wei_search}
use Rattle.trellis.specs.Words.{word_parts, word}
use Rattle.trellis.specs.Said.{spoken_words}
use Rattle.trellis.proofs.Rows.{row, common-row}
use Rattle.trellis.proofs.WeiLaws.{wei-laws}
use Rattle.distance.specs.Distance.{distance}
use Rattle.nearest.specs.declared.Received.{Received}
use Rattle.nearest.specs.Line.{line_distance, line_measure, line_choice}
use Rattle.nearest.proofs.Laws.{line-chooses}
use Rattle.receiver_meaning.specs.Told.{Told, code_of, words_of, speaker_of, pending_after, FineList, Fine}
use Rattle.openings.specs.Opening.{Receiver}
use Rattle.openings.specs.declared.Start.TheVariants.{At}
use Rattle.sender.specs.Send.{four}
use Rattle.promises.specs.Talk.{Talk}
use Rattle.promises.proofs.Follows.{told_of, follows}
use Rattle.dropouts.specs.Gaps.{rested}
use Rattle.dropouts.proofs.Needed.{heard_with}

abbrev pub repeated : ℕ → List ℕ → List ℕ
repeated zero l = []
repeated (suc n) l = l ++ repeated n l

abbrev pub dropping : List (Two Received)
dropping = heard_with (repeated 33 (2 ∷ 0 ∷ [])) (replicate 66 0)

pub keeps-the-rule : (rested 0 dropping ≡ true) × (length dropping ≡ 66)
unfolding symbols_from four
keeps-the-rule = (refl, refl)

-- ---- by rows of all states at once

abbrev S : Search (code_of (of_width 0) (named 0))
S = wei_search 0 (line_measure (of_width 0)) (line_choice (of_width 0)) same_symbol (named 0)

laws : Laws (wei_search 0 (line_measure (of_width 0)) (line_choice (of_width 0)) same_symbol (named 0))
laws = wei-laws 0 (line_measure (of_width 0)) (line_choice (of_width 0)) (line-chooses (of_width 0)) same_symbol (named 0)

agreed : List ℕ
agreed = let best = row S (reverse dropping) in words_of (of_width 0) (named 0) (lcps same_symbol (live (λ s. get_or best s absent) (range 0 16)))

none-agreed : agreed ≡ []
unfolding agreed lcps lcp live row choose better range line_distance distance counted far_of first_far second_far best_of best_i3 type_sum gap_of near least symbols_from symbol_of
    unpacked next_state first_at second_at four last_label second_label before carry_i1 carry_i2 point_of a_point coordinates same_symbol speak word word_parts packed
none-agreed = refl

pub none-final : (w : ℕ) → (speaker_of (told_of (of_width 0) w (At 0) dropping)).spoken (reverse dropping) ≡ []
unfolding agreed spoken_words spoken
none-final w = ap (words_of (of_width 0) (named 0)) (common-row S laws (reverse dropping)) ∙ none-agreed

-- ---- so none can take it

in_window : (t : Told) (ys : List (Two Received)) → FineList t ys → pending_after t ys ≤ t.window
in_window t [] f = omega arith
in_window t (y ∷ ys) f = f.1

-- a history that holds n symbols of which none is final needs a window as wide
needs : (t : Told) (n : ℕ) → Fine t → (speaker_of t).spoken t.heard ≡ [] → length t.heard ≡ n → n ≤ 64
needs t n f e l = omega (arith, in_window t t.heard f.each, ap length e, f.small-window)

pub no-window : (w : ℕ) (ws : List ℕ) (rx : Receiver) → Talk (of_width 0) w (At 0) dropping ws rx → ⊥
no-window w ws rx k =
    let h = needs (told_of (of_width 0) w (At 0) dropping) 66 (follows (of_width 0) w (At 0) dropping ws rx k).fine (none-final w) (length-reverse dropping ∙ keeps-the-rule.1) in
    omega (arith, h)
