-- A quarter turn on the line: on either map the distance of a turned received point from a turned point is the distance, and what was in
-- range is in range again. So the words of the nearest sequence stay, where its symbols alone are nearest.
--   distance-turned   a spot and a point turned are as far apart
--   line-turns        so are received points and the points of a line, by label and number
--   in-range          turned coordinates are in range
--   answer-turned     the words of the answer before and after k turns
use mathlib.Core.Path.{◌≡◌, refl, sym, ap, ap₂, subst, subst₂, ◌∙◌}
use mathlib.Core.Bool.{true}
use mathlib.Core.List.{List, [], ◌∷◌, ◌++◌, map, map-id, map-append, reverse, reverse-cons}
use Prim.Native.Nat.{ℕ, zero, suc, ◌+◌, ◌%◌, ◌^◌, ◌<◌}
use native.Mathlib.Omega.{arith}
use lib.IntN.{ℤ}
use Rattle.points.specs.declared.Accord.{Accord}
use Rattle.points.specs.declared.Map.{Map}
use Rattle.points.specs.declared.Map.TheVariants.{Round, Square}
use Rattle.points.specs.declared.Point.{Point}
use Rattle.points.specs.Agreed.{is_accord}
use Rattle.points.specs.Turn.{turned}
use Rattle.points.proofs.Signed.{nat_abs-neg, neg-neg}
use Rattle.wei.specs.Symbol.{Symbol}
use Rattle.maps.specs.PointMap.{number_on, point_on}
use Rattle.maps.proofs.Both.{is-map}
use Rattle.trellis.specs.Code.{Path, symbols}
use Rattle.trellis.specs.Measure.{free, Two, counted}
use Rattle.trellis.specs.Same.{same_symbol}
use Rattle.trellis.specs.Pick.{wei_search}
use Rattle.trellis.specs.Said.{answer_words}
use Rattle.trellis.proofs.Onward.{some-answer}
use Rattle.trellis.proofs.WeiLaws.{wei-laws, wei-onward}
use Rattle.trellis.proofs.Spoken.{answer-words}
use Rattle.distance.specs.declared.Spot.{Spot}
use Rattle.distance.specs.Distance.{distance}
use Rattle.round_search.specs.Key.{turned_back}
use Rattle.round_search.proofs.Distances.{back}
use Rattle.nearest.specs.declared.Received.{Received}
use Rattle.nearest.specs.declared.Received.TheVariants.{Heard, Missing}
use Rattle.nearest.specs.Line.{InRange, BothInRange, line_distance, line_measure, line_choice}
use Rattle.nearest.proofs.Laws.{line-chooses}
use Rattle.receiver_meaning.specs.Told.{code_of, words_of}
use Rattle.turn_meaning.specs.Alone.{IsNearest, Alone}
use Rattle.turn_meaning.specs.Turned.{times, spot_turned, point_turned, turned_by}
use Rattle.turn_meaning.specs.Same.{three_bits, SameWords}
use Rattle.turn_meaning.proofs.Symmetry.{answer-nearest}
use Rattle.turn_meaning.proofs.Wei.{Turns}
use Rattle.turn_meaning.proofs.Words.{low-kept, words-kept}
use Rattle.turn_meaning.proofs.Kept.{turned-words}

-- ---- the distance

turned-back : (s : Spot) → turned_back (spot_turned s) ≡ s
unfolding turned_back
turned-back s = ap {B = Spot} (λ (x : ℤ). record { x = x; y = s.y }) (neg-neg s.x)

pub distance-turned : (s : Spot) (p : Point) → distance (spot_turned s) (turned p) ≡ distance s p
distance-turned s p = back (spot_turned s) p ∙ ap (λ (t : Spot). distance t p) (turned-back s)

spot-four : (s : Spot) → times spot_turned 4 s ≡ s
spot-four s = ap₂ {C = Spot} (λ (x y : ℤ). record { x = x; y = y }) (neg-neg s.x) (neg-neg s.y)

heard-four : (h : Received) → times point_turned 4 h ≡ h
heard-four (Heard s) = ap {B = Received} Heard (spot-four s)
heard-four Missing = refl

-- ---- in range again

point-in : (h : Received) → InRange h → InRange (point_turned h)
point-in (Heard s) r = record { x-in = r.y-in; y-in = omega (arith, nat_abs-neg s.x, r.x-in) }
point-in Missing r = tt

pub in-range : (k : ℕ) (y : Two Received) → BothInRange y → BothInRange (turned_by k y)
in-range zero y r = r
in-range (suc k) y r =
    let t = in-range k y r in
    record { first-in = point-in (turned_by k y).first t.first-in; second-in = point-in (turned_by k y).second t.second-in }

-- ---- both maps

module _ (ac : Accord) (g : is_accord ac ≡ true) where
  -- the number of a turned point
  abbrev tw : ℕ → ℕ
  tw w = number_on ac.map ac.u w

  far-kept : (h : Received) (l w : ℕ) → l < 4 → w < 2 ^ ac.u → line_distance ac (point_turned h) ((l + 1) % 4) (tw w) ≡ line_distance ac h l w
  unfolding line_distance
  far-kept (Heard s) l w a b =
      ap (distance (spot_turned s)) (sym ((is-map ac.map).turn ac.u l w g a b)) ∙ distance-turned s (point_on ac.map ac.u l w)
  far-kept Missing l w a b = refl

  line-turns : Turns ac.u (line_distance ac) point_turned tw
  line-turns =
      record {
        below = λ w b. (is-map ac.map).turn_below ac.u w g b;
        number-four = λ w b. (is-map ac.map).turn-four ac.u w g b;
        heard-four = heard-four;
        as-far = far-kept;
      }

  module _ (k : ℕ) (ys : List (Two Received)) (A : Alone (code_of ac free) ys) (p q : Path Symbol) (m : IsNearest (code_of ac free) ys p)
      (n : IsNearest (code_of ac free) (map (turned_by k) ys) q) where
    low-words : map three_bits (words_of ac free (symbols q)) ≡ map three_bits (words_of ac free (symbols p))
    low-words = turned-words ac.u (line_distance ac) counted point_turned tw line-turns three_bits (low-kept tw ac.u) k ys A p q m n

    -- on the round map a number stays
    round-words : ac.map ≡ Round → words_of ac free (symbols q) ≡ words_of ac free (symbols p)
    round-words e =
        let same : (w : ℕ) → tw w ≡ w = λ w. ap (λ (x : Map). number_on x ac.u w) e in
        let kept = turned-words ac.u (line_distance ac) counted point_turned tw line-turns (λ w. w) (words-kept tw ac.u same) k ys A p q m n in
        sym (map-id _) ∙ kept ∙ map-id _

    line-words : SameWords ac.map (words_of ac free (symbols q)) (words_of ac free (symbols p))
    line-words = go ac.map refl
      where
        go : (x : Map) → ac.map ≡ x → SameWords x (words_of ac free (symbols q)) (words_of ac free (symbols p))
        go Round e = round-words e
        go Square e = low-words

-- ---- the answer, xs in the order of time

reverse-map : {A B : Type 0} (f : A → B) (xs : List A) → reverse (map f xs) ≡ map f (reverse xs)
reverse-map f [] = refl
reverse-map {B = B} f (x ∷ xs) =
    reverse-cons (f x) (map f xs) ∙ ap (λ (l : List B). l ++ (f x ∷ [])) (reverse-map f xs)
    ∙ sym (map-append f (reverse xs) (x ∷ [])) ∙ ap (map f) (sym (reverse-cons x xs))

module _ (ac : Accord) where
  -- the words of the answer for xs, with a free start
  abbrev pub answer_of : List (Two Received) → List ℕ
  answer_of xs = answer_words ac.u (line_measure ac) (line_choice ac) free (reverse xs)

  -- it is the words of some nearest sequence
  answered : (xs : List (Two Received)) → (p : Path Symbol) × IsNearest (code_of ac free) (reverse xs) p × (answer_of xs ≡ words_of ac free (symbols p))
  answered xs =
      let M = line_measure ac in
      let L = wei-laws ac.u M (line_choice ac) (line-chooses ac) same_symbol free in
      let (p, a) = some-answer (wei_search ac.u M (line_choice ac) same_symbol free) L (wei-onward ac.u M free tt) (reverse xs) in
      (p, answer-nearest (code_of ac free) (reverse xs) p a, answer-words ac.u M (line_choice ac) (line-chooses ac) free tt xs p a)

  pub answer-turned : is_accord ac ≡ true → (k : ℕ) (xs : List (Two Received)) → Alone (code_of ac free) (reverse xs) →
      SameWords ac.map (answer_of (map (turned_by k) xs)) (answer_of xs)
  answer-turned g k xs A =
      let (p, m, e) = answered xs in
      let (q, n, f) = answered (map (turned_by k) xs) in
      let n' = subst (λ (l : List (Two Received)). IsNearest (code_of ac free) l q) (reverse-map (turned_by k) xs) n in
      subst₂ (SameWords ac.map) (sym f) (sym e) (line-words ac g k (reverse xs) A p q m n')
