-- IV-8 over pairs of points (T5): each pair of points of the map stands for one valid symbol, whose bits are those that the
-- labels of the points give; so what holds of symbols holds of pairs of points.
--   label-bits          the labels of a valid symbol give its bits; point-bits: so do its points
--   symbols-of          pairs of points of the map are the points of valid symbols
--   one-symbols         and of no others
--   points-iv-eight     with a free start pairs of points are allowed exactly if they are points of the map and each five in a row meet
--                       IV-8
--   points-four         up to four, any points of the map are allowed
use mathlib.Core.Path.{◌≡◌, refl, sym, ap, ap₂, subst, ◌∙◌}
use mathlib.Core.List.{List, [], ◌∷◌, map}
use mathlib.Core.Logic.{◌↔◌}
use Prim.Native.Nat.{ℕ, zero, suc, ◌/◌, ◌%◌, ◌^◌, ◌≤◌, ◌<◌}
use native.Mathlib.Omega.{arith}
use lib.Dec.{eqb}
use lib.ListN.{length, length-map}
use lib.Pow.{pow_mono}
use Rattle.trellis.specs.Lists.{Every}
use Rattle.trellis.specs.Measure.{free, Two}
use Rattle.trellis.specs.IvEight.{Bits, Fives, bits_of, label_by, label_of, label_bits, point_bits, points_of, IsPair, AllowsPoints}
use Rattle.trellis.proofs.IvEight.{iv-eight, four-allowed}
use Rattle.wei.specs.Label.{turn_of, turn_from, second_label}
use Rattle.wei.specs.Symbol.{Symbol, first_label, last_label, Valid}
use Rattle.wei.proofs.Finite.{equal2, equal4}
use Rattle.wei.proofs.Labels.{second_below}
use Rattle.points.specs.declared.Point.{Point}
use Rattle.points.specs.Turn.{point_of, remainder_x, remainder_y}
use Rattle.points.specs.Pair.{first_point, second_point}
use Rattle.points.proofs.Turns.{labelled}
use Rattle.points.proofs.Apart.{symbols-apart}

-- ── labels ──
label-back : (l : ℕ) → l < 4 → label_by (eqb (remainder_x l) 3) (eqb (remainder_y l) 3) ≡ l
label-back zero h = refl
label-back (suc zero) h = refl
label-back (suc (suc zero)) h = refl
label-back (suc (suc (suc zero))) h = refl
label-back (suc (suc (suc (suc l)))) h = absurd (omega arith)

label_is : (l w : ℕ) → l < 4 → w < 256 → label_of (point_of l w) ≡ l
unfolding label_of
label_is l w h k = let a = labelled l w h k in rw (a.x-is, a.y-is) (label-back l h)

-- the bits of the labels that bits have; the labels of the bits that labels have
bits-y0 : (y0 i1 i2 i3 : ℕ) → y0 < 2 → i1 < 2 → i2 < 2 → i3 < 2 → turn_from (turn_of i2 i3) (second_label (turn_of i2 i3) y0 i1) % 2 ≡ y0
unfolding second_label
bits-y0 = equal4 2 2 2 2 (λ a b c d. turn_from (turn_of c d) (second_label (turn_of c d) a b) % 2) (λ a b c d. a) tt

bits-i1 : (y0 i1 i2 i3 : ℕ) → y0 < 2 → i1 < 2 → i2 < 2 → i3 < 2 → turn_from (turn_of i2 i3) (second_label (turn_of i2 i3) y0 i1) / 2 ≡ i1
unfolding second_label
bits-i1 = equal4 2 2 2 2 (λ a b c d. turn_from (turn_of c d) (second_label (turn_of c d) a b) / 2) (λ a b c d. b) tt

labels-last : (l m : ℕ) → l < 4 → m < 4 → second_label (turn_of (l % 2) (l / 2)) (turn_from l m % 2) (turn_from l m / 2) ≡ m
unfolding second_label
labels-last = equal2 4 4 (λ l m. second_label (turn_of (l % 2) (l / 2)) (turn_from l m % 2) (turn_from l m / 2)) (λ l m. m) tt

-- the labels of a valid symbol give its bits
pub label-bits : (u : ℕ) (c : Symbol) → Valid u c → label_bits (first_label c) (last_label c) ≡ bits_of c
unfolding last_label
label-bits u c v =
    let z₀ = bits-y0 c.y0 c.i1 c.i2 c.i3 v.y0-below v.i1-below v.i2-below v.i3-below in
    let z₁ = bits-i1 c.y0 c.i1 c.i2 c.i3 v.y0-below v.i1-below v.i2-below v.i3-below in
    let z₂ : first_label c % 2 ≡ c.i2 = omega (arith, v.i2-below) in
    λ i. record { y0 = z₀ i; i1 = z₁ i; i2 = z₂ i }

module _ (u : ℕ) (small : u ≤ 8) where
  below : (w : ℕ) → w < 2 ^ u → w < 256
  below w h = let k : 2 ^ u ≤ 256 = pow_mono small in omega arith

  pub point-bits : (c : Symbol) → Valid u c → point_bits (points_of c) ≡ bits_of c
  unfolding first_point second_point last_label
  point-bits c v =
      let e₁ : label_of (first_point c) ≡ first_label c = label_is (first_label c) c.w1 (omega (arith, v.i2-below, v.i3-below)) (below c.w1 v.w1-below) in
      let e₂ : label_of (second_point c) ≡ last_label c = label_is (last_label c) c.w2 (second_below (first_label c) c.y0 c.i1) (below c.w2 v.w2-below) in
      ap₂ label_bits e₁ e₂ ∙ label-bits u c v

  all-bits : (cs : List Symbol) → Every (Valid u) cs → map point_bits (map points_of cs) ≡ map bits_of cs
  all-bits [] v = refl
  all-bits (c ∷ cs) v = ap₂ (λ (b : Bits) (bs : List Bits). b ∷ bs) (point-bits c v.0) (all-bits cs v.1)

  -- ── the symbol of two points ──
  abbrev at : ℕ → ℕ → ℕ → ℕ → Symbol
  at l m w v = record { y0 = turn_from l m % 2; i1 = turn_from l m / 2; i2 = l % 2; i3 = l / 2; w1 = w; w2 = v }

  record Stands (pq : Two Point) : Type 0 where
    symbol : Symbol
    valid : Valid u symbol
    are : points_of symbol ≡ pq

  stands : (pq : Two Point) → IsPair u pq → Stands pq
  unfolding first_point second_point last_label
  stands pq (p, q) =
      let l = p.label in
      let m = q.label in
      let hl : l < 4 = p.label-below in
      let e₁ : turn_of (l % 2) (l / 2) ≡ l = omega arith in
      let e₂ = labels-last l m p.label-below q.label-below in
      record {
        symbol = at l m p.number q.number;
        valid =
            record {
              y0-below = omega arith;
              i1-below = omega arith;
              i2-below = omega arith;
              i3-below = omega arith;
              w1-below = p.number-below;
              w2-below = q.number-below;
            };
        are = λ i. record { first = (ap (λ (x : ℕ). point_of x p.number) e₁ ∙ p.is) i; second = (ap (λ (x : ℕ). point_of x q.number) e₂ ∙ q.is) i };
      }

  pub record Symbols (ps : List (Two Point)) : Type 0 where
    pub symbols : List Symbol
    pub valid : Every (Valid u) symbols
    pub are : map points_of symbols ≡ ps

  pub symbols-of : (ps : List (Two Point)) → Every (IsPair u) ps → Symbols ps
  symbols-of [] h = record { symbols = []; valid = tt; are = refl }
  symbols-of (pq ∷ ps) h =
      let s = stands pq h.0 in
      let r = symbols-of ps h.1 in
      record { symbols = s.symbol ∷ r.symbols; valid = (s.valid, r.valid); are = ap₂ (λ (x : Two Point) (xs : List (Two Point)). x ∷ xs) s.are r.are }

  pub one-symbols : (cs ds : List Symbol) → Every (Valid u) cs → Every (Valid u) ds → map points_of cs ≡ map points_of ds → cs ≡ ds
  one-symbols [] [] v w e = refl
  one-symbols [] (d ∷ ds) v w e = absurd (let z : ◌≡◌ {A = ℕ} 0 1 = cc in omega arith)
  one-symbols (c ∷ cs) [] v w e = absurd (let z : ◌≡◌ {A = ℕ} 0 1 = cc in omega arith)
  one-symbols (c ∷ cs) (d ∷ ds) v w e =
      let z : points_of c ≡ points_of d = cc in
      let r : map points_of cs ≡ map points_of ds = cc in
      let z₁ = symbols-apart u c d small v.0 w.0 (ap (λ (x : Two Point). x.first) z) (ap (λ (x : Two Point). x.second) z) in
      let z₂ = one-symbols cs ds v.1 w.1 r in
      cc

  -- the points of valid symbols are points of the map
  are-pairs : (cs : List Symbol) → Every (Valid u) cs → Every (IsPair u) (map points_of cs)
  unfolding first_point second_point last_label
  are-pairs [] v = tt
  are-pairs (c ∷ cs) v = (
    (
      record { label = first_label c; number = c.w1; label-below = omega (arith, v.0.i2-below, v.0.i3-below); number-below = v.0.w1-below; is = refl },
      record { label = last_label c; number = c.w2; label-below = second_below (first_label c) c.y0 c.i1; number-below = v.0.w2-below; is = refl },
    ),
    are-pairs cs v.1,
  )

  -- ── T5 over pairs of points ──
  points-fives : (ps : List (Two Point)) → AllowsPoints u free ps → Every (IsPair u) ps × Fives (map point_bits ps)
  points-fives ps k =
      let (v, f) = (iv-eight u k.symbols).0 k.allowed in
      subst (λ (xs : List (Two Point)). Every (IsPair u) xs × Fives (map point_bits xs)) k.are (are-pairs k.symbols v, subst Fives (sym (all-bits k.symbols v)) f)

  fives-points : (ps : List (Two Point)) → Every (IsPair u) ps × Fives (map point_bits ps) → AllowsPoints u free ps
  fives-points ps (h, f) =
      let s = symbols-of ps h in
      let g : Fives (map bits_of s.symbols) = subst Fives (ap (map point_bits) (sym s.are) ∙ all-bits s.symbols s.valid) f in
      record { symbols = s.symbols; are = s.are; allowed = (iv-eight u s.symbols).1 (s.valid, g) }

  pub points-iv-eight : (ps : List (Two Point)) → AllowsPoints u free ps ↔ (Every (IsPair u) ps × Fives (map point_bits ps))
  points-iv-eight ps = (points-fives ps, fives-points ps)

  pub points-four : (ps : List (Two Point)) → Every (IsPair u) ps → length ps ≤ 4 → AllowsPoints u free ps
  points-four ps h k =
      let s = symbols-of ps h in
      let l : length s.symbols ≤ 4 = omega (arith, ap length s.are, length-map s.symbols points_of) in
      record { symbols = s.symbols; are = s.are; allowed = four-allowed u s.symbols s.valid l }
