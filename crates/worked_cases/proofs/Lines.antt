-- The rows of specs/Lines, computed by rows of all states at once (trellis/proofs/Rows).
--   rows-hold      each row of the table holds
--   beyond-holds, midway-holds   beyond the cap the nearest point is not told from the others; midway there is none
--   lightning      one point of a clean line at (8192, 8192): whole distances give wrong words, counted ones every word sent
use mathlib.Core.Path.{◌≡◌, refl, ap, ◌∙◌}
use mathlib.Core.List.{List, [], ◌∷◌, map, reverse}
use Prim.Native.Nat.{ℕ}
use lib.ListN.{get_or}
use Rattle.wei.specs.Word.{packed, unpacked}
use Rattle.wei.specs.State.{next_state, before, carry_i1, carry_i2}
use Rattle.wei.specs.Label.{second_label}
use Rattle.wei.specs.Symbol.{last_label, symbol_of, symbols_from}
use Rattle.points.specs.Points.{coordinates, a_point}
use Rattle.points.specs.Turn.{point_of}
use Rattle.points.specs.Pair.{first_point, second_point}
use Rattle.trellis.specs.Lists.{Every}
use Rattle.trellis.specs.Best.{Surv, absent}
use Rattle.trellis.specs.Choose.{better, choose}
use Rattle.trellis.specs.Search.{Search, Laws, range, answer}
use Rattle.trellis.specs.Common.{lcp, lcps, live, common}
use Rattle.trellis.specs.Speak.{speak, symbols_in, spoken, answered}
use Rattle.trellis.specs.Measure.{counted, first_far, second_far, far_of, pairs, wei_code}
use Rattle.trellis.specs.Same.{same_symbol}
use Rattle.trellis.specs.Pick.{least, near, gap_of, type_sum, best_i3, best_of, wei_search}
use Rattle.trellis.specs.Words.{word_parts, word, words}
use Rattle.trellis.specs.Said.{spoken_words, answer_words}
use Rattle.trellis.proofs.Rows.{row, answer-row, common-row}
use Rattle.trellis.proofs.WeiLaws.{wei-laws}
use Rattle.trellis.proofs.Pairs.{Rises, pairs-chooses}
use Rattle.trellis.proofs.Counted.{counted-rises}
use Rattle.maps.specs.SquareMap.{square_of, grid_point}
use Rattle.distance.specs.Distance.{distance}
use Rattle.nearest.specs.declared.Received.{Received}
use Rattle.nearest.specs.Line.{line_distance}
use Rattle.worked_cases.specs.Lines.{Row, Holds, table, whole, misled, healed, beyond, midway}

abbrev S : (n : ℕ → ℕ) (r : Row) → Search (wei_code r.line.u (pairs Received (line_distance r.line) n) r.start)
S n r = wei_search r.line.u (pairs Received (line_distance r.line) n) (best_of r.line.u (line_distance r.line) n) same_symbol r.start

-- the words spoken and those of the answer, from one row
computed : (ℕ → ℕ) → Row → List (List ℕ)
computed n r =
    let best = row (S n r) (reverse r.received) in
    words r.line.u r.start (lcps same_symbol (live (λ s. get_or best s absent) (range 0 16))) ∷ words r.line.u r.start (symbols_in (choose (λ s. get_or best s absent) (range 0 16))) ∷ []

written : Row → List (List ℕ)
written r = r.spoken ∷ r.answer ∷ []

module _ (n : ℕ → ℕ) (rises : Rises n) where
  laws : (r : Row) → Laws (S n r)
  laws r =
      let u = r.line.u in
      let far = line_distance r.line in wei-laws u (pairs Received far n) (best_of u far n) (pairs-chooses u far n rises) same_symbol r.start

  computes : (r : Row) → computed n r ≡ written r → Holds n r
  unfolding computed written spoken_words answer_words spoken answered
  computes r e =
      let ys = reverse r.received in
      let z₁ : words r.line.u r.start (common (S n r) ys) ≡ r.spoken = ap (words r.line.u r.start) (common-row (S n r) (laws r) ys) ∙ cc in
      let z₂ : words r.line.u r.start (symbols_in (answer (S n r) ys)) ≡ r.answer = ap (λ (o : Surv _). words r.line.u r.start (symbols_in o)) (answer-row (S n r) (laws r) ys) ∙ cc in
      (z₁, z₂)

  every_holds : (rs : List Row) → map (computed n) rs ≡ map written rs → Every (Holds n) rs
  every_holds [] e = tt
  every_holds (r ∷ rs) e =
      let z₁ : computed n r ≡ written r = cc in
      let z₂ : map (computed n) rs ≡ map written rs = cc in
      (computes r z₁, every_holds rs z₂)

-- all rows at once, and what was counted whole
all-computed : (map (computed counted) (midway ∷ beyond ∷ healed ∷ table) ≡ map written (midway ∷ beyond ∷ healed ∷ table)) × (computed whole misled ≡ written misled)
unfolding table computed written lcps lcp live row choose better range line_distance distance counted whole far_of first_far second_far best_of best_i3 type_sum gap_of near
    least symbols_from symbol_of unpacked next_state first_point second_point last_label second_label before carry_i1 carry_i2 point_of a_point coordinates
    square_of grid_point same_symbol speak word word_parts packed
all-computed = (refl, refl)

all_hold : Every (Holds counted) (midway ∷ beyond ∷ healed ∷ table)
all_hold = every_holds counted counted-rises (midway ∷ beyond ∷ healed ∷ table) all-computed.0

pub rows-hold : Every (Holds counted) (healed ∷ table)
rows-hold = all_hold.1.1

pub beyond-holds : Holds counted beyond
beyond-holds = all_hold.1.0

pub midway-holds : Holds counted midway
midway-holds = all_hold.0

-- a spark: distances counted whole give three wrong words, counted ones every word sent
pub lightning : Holds whole misled × Holds counted healed
unfolding whole
lightning = (computes whole (λ a b h. h) misled all-computed.1, rows-hold.0)
