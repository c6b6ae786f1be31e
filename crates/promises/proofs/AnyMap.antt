-- BOTH MAPS. What 01 says of pairs of points, on a line of any accord: round map or square. The laws of a map (maps/specs/PointMap) are all
-- that is used of it, so each statement is made once for both.
--   same_points      valid symbols are one exactly if both points are equal
--   subsets-apart    symbols of different subsets differ in a point
--   common-points    a common beginning of symbols is a common beginning of pairs of points
--   released-points, only-released   the longest common beginning, "both points equal", is that of the symbols: exactly what demand 3 releases
--   allows-points    IV-8: with a free start pairs of points are allowed exactly if they are points of the map and each five in a row meet it
--   allows-few       up to four, any points of the map are allowed
use mathlib.Core.Path.{◌≡◌, refl, sym, ap, ap₂, subst, ◌∙◌}
use mathlib.Core.Bool.{true}
use mathlib.Core.List.{List, [], ◌∷◌, ◌++◌, map, map-append, IsPrefix}
use mathlib.Core.Logic.{◌↔◌}
use Prim.Native.Nat.{ℕ, zero, suc, ◌/◌, ◌%◌, ◌^◌, ◌≤◌, ◌<◌}
use native.Mathlib.Omega.{arith}
use lib.Dec.{eqb}
use lib.ListN.{length, take, length-append, length-map}
use lib.Seq.{take_at}
use Rattle.wei.specs.Label.{turn_of, turn_from, second_label}
use Rattle.wei.specs.State.{subset_of}
use Rattle.wei.specs.Symbol.{Symbol, first_label, last_label, Valid}
use Rattle.wei.proofs.Finite.{equal2}
use Rattle.wei.proofs.Labels.{second_below}
use Rattle.points.specs.declared.Accord.{Accord}
use Rattle.points.specs.declared.Point.{Point}
use Rattle.points.specs.Agreed.{is_accord}
use Rattle.points.specs.Turn.{remainder_x, remainder_y}
use Rattle.maps.specs.PointMap.{point_at, first_at, second_at}
use Rattle.maps.proofs.Both.{is-map}
use Rattle.maps.proofs.Apart.{symbols-apart}
use Rattle.trellis.specs.Lists.{Every}
use Rattle.trellis.specs.Code.{Path, last, symbols}
use Rattle.trellis.specs.Best.{Best, Common, Longest}
use Rattle.trellis.specs.Measure.{Start, free, GoodStart, Two}
use Rattle.trellis.specs.IvEight.{Bits, Fives, bits_of, label_by, label_of, label_bits, point_bits}
use Rattle.trellis.specs.Same.{same_symbol}
use Rattle.trellis.specs.Pick.{wei_search}
use Rattle.trellis.proofs.Lists.{prefix-cons}
use Rattle.trellis.proofs.IvEight.{allowed-valid, iv-eight, four-allowed}
use Rattle.trellis.proofs.IvPoints.{label-bits}
use Rattle.trellis.proofs.Paths.{allowed-runs}
use Rattle.trellis.proofs.Onward.{some-answer}
use Rattle.trellis.proofs.WeiLaws.{wei-laws, wei-onward}
use Rattle.nearest.specs.declared.Received.{Received}
use Rattle.nearest.specs.Line.{line_measure, line_choice}
use Rattle.nearest.proofs.Laws.{line-chooses}
use Rattle.receiver_meaning.specs.Told.{code_of}
use Rattle.promises.specs.AnyMap.{points_at, IsPairAt, AllowsPointsAt, CommonPoints, LongestPoints}

-- a beginning of a list is its first places
prefix-take : {A : Type 0} (l m : List A) → IsPrefix l m → take (length l) m ≡ l
prefix-take l m (r, e) = ap (take (length l)) (sym e) ∙ take_at l r (length l) refl

prefix-long : {A : Type 0} (l m : List A) → IsPrefix l m → length l ≤ length m
prefix-long l m (r, e) = omega (arith, length-append l r, ap length e)

map-take : {A B : Type 0} (f : A → B) (n : ℕ) (l : List A) → map f (take n l) ≡ take n (map f l)
map-take f zero l = refl
map-take f (suc n) [] = refl
map-take f (suc n) (x ∷ l) = ap (λ (r : List _). f x ∷ r) (map-take f n l)

module _ (k : Accord) (h : is_accord k ≡ true) where
  -- ---- both points equal

  pub same_points : (c d : Symbol) → Valid k.u c → Valid k.u d → (points_at k c ≡ points_at k d) ↔ (c ≡ d)
  same_points c d v w = (λ e. symbols-apart k h c d v w (ap (λ (x : Two Point). x.first) e) (ap (λ (x : Two Point). x.second) e), ap (points_at k))

  pub subsets-apart : (c d : Symbol) → Valid k.u c → Valid k.u d → (subset_of c.y0 c.i1 c.i2 ≡ subset_of d.y0 d.i1 d.i2 → ⊥) → points_at k c ≡ points_at k d → ⊥
  subsets-apart c d v w n e = n (ap (λ (x : Symbol). subset_of x.y0 x.i1 x.i2) ((same_points c d v w).0 e))

  prefix-points : (l m : List Symbol) → IsPrefix l m → IsPrefix (map (points_at k) l) (map (points_at k) m)
  prefix-points l m (r, e) = (map (points_at k) r, sym (map-append (points_at k) l r) ∙ ap (map (points_at k)) e)

  points-prefix : (l m : List Symbol) → Every (Valid k.u) l → Every (Valid k.u) m → IsPrefix (map (points_at k) l) (map (points_at k) m) → IsPrefix l m
  points-prefix [] m v w x = (m, refl)
  points-prefix (c ∷ l) [] v w (r, e) = absurd (let z : ◌≡◌ {A = ℕ} 0 1 = cc in omega arith)
  points-prefix (c ∷ l) (d ∷ m) v w (r, e) =
      let z : points_at k c ≡ points_at k d = cc in
      let y : map (points_at k) l ++ r ≡ map (points_at k) m = cc in
      prefix-cons c d l m ((same_points c d v.0 w.0).0 z) (points-prefix l m v.1 w.1 (r, y))

  module _ (b : Start) (ys : List (Two Received)) where
    -- the symbols of a best sequence are of the width
    best-valid : (s : ℕ) (p : Path Symbol) → Best (code_of k b) ys s p → Every (Valid k.u) (symbols p)
    best-valid s p x = let r = allowed-runs k.u (line_measure k) b ys p x.allowed in allowed-valid k.u r.from (symbols p) r.allowed

    pub common-points : (l : List Symbol) → Every (Valid k.u) l → Common (code_of k b) ys l ↔ CommonPoints k b ys (map (points_at k) l)
    common-points l v = (λ x s p y. prefix-points l (symbols p) (x s p y), λ x s p y. points-prefix l (symbols p) v (best-valid s p y) (x s p y))

    every_take : (n : ℕ) (l : List Symbol) → Every (Valid k.u) l → Every (Valid k.u) (take n l)
    every_take zero l v = tt
    every_take (suc n) [] v = tt
    every_take (suc n) (c ∷ l) v = (v.0, every_take n l v.1)

    -- a best sequence: the answer, into its last state
    module _ (g : GoodStart b) where
      a-best : (p : Path Symbol) × Best (code_of k b) ys (last p) p
      a-best =
          let (p, a) =
          some-answer (wei_search k.u (line_measure k) (line_choice k) same_symbol b) (wei-laws k.u (line_measure k) (line_choice k) (line-chooses k) same_symbol b)
          (wei-onward k.u (line_measure k) b g) ys in
          (p, record { allowed = a.allowed; ends = refl; least = λ q x _. a.least q x })

      -- a common beginning of pairs of points is one of symbols
      as-symbols : (ps : List (Two Point)) → CommonPoints k b ys ps → (l : List Symbol) × (map (points_at k) l ≡ ps) × Common (code_of k b) ys l
      as-symbols ps x =
          let (p, y) = a-best in
          let l = take (length ps) (symbols p) in
          let e : map (points_at k) l ≡ ps = map-take (points_at k) (length ps) (symbols p) ∙ prefix-take ps (map (points_at k) (symbols p)) (x (last p) p y) in
          (l, e, (common-points l (every_take (length ps) (symbols p) (best-valid (last p) p y))).1 (subst (CommonPoints k b ys) (sym e) x))

      pub released-points : (l : List Symbol) → Longest (code_of k b) ys l → LongestPoints k b ys (map (points_at k) l)
      released-points l x =
          record {
            common = λ s p y. prefix-points l (symbols p) (x.common s p y);
            longest = λ ps y.
                let (m, e, c) = as-symbols ps y in
                omega (arith, x.longest m c, ap length e, length-map m (points_at k), length-map l (points_at k));
          }

      pub only-released : (l : List Symbol) → Longest (code_of k b) ys l → (qs : List (Two Point)) → LongestPoints k b ys qs → qs ≡ map (points_at k) l
      only-released l x qs y =
          let z = released-points l x in
          let (p, w) = a-best in
          let n : length qs ≡ length (map (points_at k) l) = omega (arith, y.longest (map (points_at k) l) z.common, z.longest qs y.common) in
          let all = map (points_at k) (symbols p) in
          sym (prefix-take qs all (y.common (last p) p w)) ∙ ap (λ (i : ℕ). take i all) n ∙ prefix-take (map (points_at k) l) all (z.common (last p) p w)

  -- ---- IV-8

  label-back : (l : ℕ) → l < 4 → label_by (eqb (remainder_x l) 3) (eqb (remainder_y l) 3) ≡ l
  label-back zero x = refl
  label-back (suc zero) x = refl
  label-back (suc (suc zero)) x = refl
  label-back (suc (suc (suc zero))) x = refl
  label-back (suc (suc (suc (suc l)))) x = absurd (omega arith)

  label_is : (l w : ℕ) → l < 4 → w < 2 ^ k.u → label_of (point_at k l w) ≡ l
  unfolding label_of
  label_is l w x y = let a = (is-map k.map).labelled k.u l w h x y in rw (a.x-is, a.y-is) (label-back l x)

  point-bits : (c : Symbol) → Valid k.u c → point_bits (points_at k c) ≡ bits_of c
  unfolding first_at second_at last_label
  point-bits c v =
      let e₁ : label_of (first_at k c) ≡ first_label c = label_is (first_label c) c.w1 (omega (arith, v.i2-below, v.i3-below)) v.w1-below in
      let e₂ : label_of (second_at k c) ≡ last_label c = label_is (last_label c) c.w2 (second_below (first_label c) c.y0 c.i1) v.w2-below in
      ap₂ label_bits e₁ e₂ ∙ label-bits k.u c v

  all-bits : (cs : List Symbol) → Every (Valid k.u) cs → map point_bits (map (points_at k) cs) ≡ map bits_of cs
  all-bits [] v = refl
  all-bits (c ∷ cs) v = ap₂ (λ (b : Bits) (bs : List Bits). b ∷ bs) (point-bits c v.0) (all-bits cs v.1)

  labels-last : (l m : ℕ) → l < 4 → m < 4 → second_label (turn_of (l % 2) (l / 2)) (turn_from l m % 2) (turn_from l m / 2) ≡ m
  unfolding second_label
  labels-last = equal2 4 4 (λ l m. second_label (turn_of (l % 2) (l / 2)) (turn_from l m % 2) (turn_from l m / 2)) (λ l m. m) tt

  -- the symbol of two points
  record Stands (pq : Two Point) : Type 0 where
    symbol : Symbol
    valid : Valid k.u symbol
    are : points_at k symbol ≡ pq

  stands : (pq : Two Point) → IsPairAt k pq → Stands pq
  unfolding first_at second_at last_label
  stands pq (p, q) =
      let l = p.label in
      let m = q.label in
      let hl : l < 4 = p.label-below in
      let e₁ : turn_of (l % 2) (l / 2) ≡ l = omega arith in
      let e₂ = labels-last l m p.label-below q.label-below in
      record {
        symbol = record { y0 = turn_from l m % 2; i1 = turn_from l m / 2; i2 = l % 2; i3 = l / 2; w1 = p.number; w2 = q.number };
        valid =
            record {
              y0-below = omega arith;
              i1-below = omega arith;
              i2-below = omega arith;
              i3-below = omega arith;
              w1-below = p.number-below;
              w2-below = q.number-below;
            };
        are = λ i. record { first = (ap (λ (x : ℕ). point_at k x p.number) e₁ ∙ p.is) i; second = (ap (λ (x : ℕ). point_at k x q.number) e₂ ∙ q.is) i };
      }

  record Symbols (ps : List (Two Point)) : Type 0 where
    made : List Symbol
    valid : Every (Valid k.u) made
    are : map (points_at k) made ≡ ps

  symbols-of : (ps : List (Two Point)) → Every (IsPairAt k) ps → Symbols ps
  symbols-of [] x = record { made = []; valid = tt; are = refl }
  symbols-of (pq ∷ ps) x =
      let s = stands pq x.0 in
      let r = symbols-of ps x.1 in
      record { made = s.symbol ∷ r.made; valid = (s.valid, r.valid); are = ap₂ (λ (y : Two Point) (xs : List (Two Point)). y ∷ xs) s.are r.are }

  are-pairs : (cs : List Symbol) → Every (Valid k.u) cs → Every (IsPairAt k) (map (points_at k) cs)
  unfolding first_at second_at last_label
  are-pairs [] v = tt
  are-pairs (c ∷ cs) v = (
    (
      record { label = first_label c; number = c.w1; label-below = omega (arith, v.0.i2-below, v.0.i3-below); number-below = v.0.w1-below; is = refl },
      record { label = last_label c; number = c.w2; label-below = second_below (first_label c) c.y0 c.i1; number-below = v.0.w2-below; is = refl },
    ),
    are-pairs cs v.1,
  )

  pub allows-points : (ps : List (Two Point)) → AllowsPointsAt k free ps ↔ (Every (IsPairAt k) ps × Fives (map point_bits ps))
  allows-points ps = (forth, back)
    where
      forth : AllowsPointsAt k free ps → Every (IsPairAt k) ps × Fives (map point_bits ps)
      forth a =
          let (v, f) = (iv-eight k.u a.symbols).0 a.allowed in
          subst (λ (xs : List (Two Point)). Every (IsPairAt k) xs × Fives (map point_bits xs)) a.are (are-pairs a.symbols v, subst Fives (sym (all-bits a.symbols v)) f)

      back : Every (IsPairAt k) ps × Fives (map point_bits ps) → AllowsPointsAt k free ps
      back (x, f) =
          let s = symbols-of ps x in
          let g : Fives (map bits_of s.made) = subst Fives (ap (map point_bits) (sym s.are) ∙ all-bits s.made s.valid) f in
          record { symbols = s.made; are = s.are; allowed = (iv-eight k.u s.made).1 (s.valid, g) }

  pub allows-few : (ps : List (Two Point)) → Every (IsPairAt k) ps → length ps ≤ 4 → AllowsPointsAt k free ps
  allows-few ps x y =
      let s = symbols-of ps x in
      let l : length s.made ≤ 4 = omega (arith, ap length s.are, length-map s.made (points_at k)) in
      record { symbols = s.made; are = s.are; allowed = four-allowed k.u s.made s.valid l }
