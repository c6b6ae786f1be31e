-- The laws of the square map, at every width that it has.
--   square-x, square-y, x_below, y-below, woven-of   the map by coordinates, whose bits are in range and give v back
--   labelled        the point of label l has that label's remainders modulo 4, as on the round map
--   small           no coordinate is above 31 in absolute value
--   on-grid         every point is on the grid
--   one_place       different labels or numbers give different points
--   place           every point of the grid has a label and a number
--   label_is        and its label is the one whose remainders modulo 4 it has
--   turned-square   a quarter turn adds 1 to the label modulo 4, as on the round map, and takes the number to `number_turned`
--   number-below, number-four   which permutes the numbers; four turns are none
--   place-settled   what the inverse answers is settled
use mathlib.Core.Path.{◌≡◌, sym, ap, ap₂, subst, ◌∙◌}
use mathlib.Core.Bool.{Bool, true, cond}
use Prim.Native.Nat.{ℕ, zero, suc, ◌+◌, ◌-◌, ◌*◌, ◌/◌, ◌%◌, ◌^◌, ◌≤◌, ◌<◌}
use native.Mathlib.Omega.{arith}
use lib.Dec.{T, eqb, eqb→eq}
use lib.IntN.{ℤ, pos, negsuc, neg_ℤ, nat_abs}
use lib.Pow.{pow-add, pow_mono}
use Rattle.wei.proofs.Finite.{at, equal1}
use Rattle.points.specs.declared.Map.TheVariants.{Square}
use Rattle.points.specs.declared.Point.{Point}
use Rattle.points.specs.Turn.{turned, Labelled, remainder_x, remainder_y}
use Rattle.points.proofs.Agreed.{width-le}
use Rattle.maps.specs.declared.square.Place.{Place}
use Rattle.maps.specs.SquareMap.{is_width, every_second, twos, grid_point, low_bits, all_bits, square_of, OnGrid, number_turned}
use Rattle.maps.specs.SquareInverse.{IsPlace}
use Rattle.maps.specs.SquareBits.{gathered, woven, coordinate, field_of, bits_of, label_of}
use Rattle.maps.proofs.SquareTests as tests

-- ---- labels and their bits

-- the map between labels and their bits is its own inverse
pub low-low : (l : ℕ) → l < 4 → low_bits (low_bits l) ≡ l
low-low = equal1 4 (λ l. low_bits (low_bits l)) (λ l. l) tt

pub low_below : (l : ℕ) → low_bits l < 4
low_below zero = omega arith
low_below (suc zero) = omega arith
low_below (suc (suc zero)) = omega arith
low_below (suc (suc (suc l))) = omega arith

pub label-of : (l w : ℕ) → l < 4 → label_of (all_bits l w) ≡ l
label-of l w h = ap low_bits (let e : all_bits l w % 4 ≡ low_bits l = omega (arith, low_below l) in e) ∙ low-low l h

pub all-bits : (v : ℕ) → all_bits (label_of v) (v / 4) ≡ v
all-bits v = omega (arith, low-low (v % 4) (omega arith))

-- the label from its remainders modulo 4
label_from : ℕ → ℕ → ℕ
label_from x y = x - 1 + ((x - 1) / 2 + (y - 1) / 2) % 2

label-from : (l : ℕ) → l < 4 → label_from (remainder_x l) (remainder_y l) ≡ l
unfolding label_from
label-from = equal1 4 (λ l. label_from (remainder_x l) (remainder_y l)) (λ l. l) tt

-- ---- a width and its half

width-ok : ℕ → Bool
width-ok u = cond (is_width u) (eqb (2 ^ u) (4 ^ (u / 2))) true

module _ (u : ℕ) (g : is_width u ≡ true) where
  pub half-below : u / 2 < 5
  half-below = omega (arith, width-le Square u g)

  -- numbers have u bits, u / 2 pairs of them
  pub pairs_of : 2 ^ u ≡ 4 ^ (u / 2)
  unfolding width-ok
  pairs_of = eqb→eq (2 ^ u) (4 ^ (u / 2)) (subst (λ (b : Bool). T (cond b (eqb (2 ^ u) (4 ^ (u / 2))) true)) g (at 9 width-ok tt u (omega (arith, width-le Square u g))))

  -- ---- the point of bits and the point of a label and a number

  abbrev m : ℕ
  m = u / 2

  point-is : (v : ℕ) → grid_point (u + 2) v ≡ record { x = tests.x_of m v; y = tests.y_of m v }
  unfolding grid_point
  point-is v =
      let e : (u + 2) / 2 ≡ m + 1 = omega arith in
      ap (λ (n : ℕ). record { x = twos (every_second n 1 v); y = twos (every_second n 0 v) }) e

  bits_below : (l w : ℕ) → w < 2 ^ u → all_bits l w < 4 ^ (m + 1)
  bits_below l w h = omega (arith, low_below l, pairs_of, pow-add 4 m 1)

  number-of : (v : ℕ) → v < 4 ^ (m + 1) → v / 4 < 2 ^ u
  number-of v h = omega (arith, pairs_of, pow-add 4 m 1)

  pub side-is : 2 ^ (m + 1) ≤ 32
  side-is = pow_mono (let e : m + 1 ≤ 5 = omega (arith, half-below) in e)

  module _ (l w : ℕ) (b : w < 2 ^ u) where
    abbrev v : ℕ
    v = all_bits l w

    here : v < 4 ^ (m + 1)
    here = bits_below l w b

    square-is : square_of u l w ≡ record { x = tests.x_of m v; y = tests.y_of m v }
    unfolding square_of
    square-is = point-is v

    -- by the gathered bits, which are in range
    pub square-x : (square_of u l w).x ≡ coordinate m (gathered (v / 2))
    square-x = ap (λ (p : Point). p.x) square-is ∙ tests.x-is m v half-below here

    pub square-y : (square_of u l w).y ≡ coordinate m (gathered v)
    square-y = ap (λ (p : Point). p.y) square-is ∙ tests.y-is m v half-below here

    pub x_below : gathered (v / 2) < 2 ^ (m + 1)
    x_below = tests.x_below m v half-below here

    pub y-below : gathered v < 2 ^ (m + 1)
    y-below = tests.y-below m v half-below here

    pub woven-of : woven (gathered (v / 2)) (gathered v) ≡ v
    woven-of = tests.woven_back m v half-below here

    pub labelled : l < 4 → Labelled l (square_of u l w)
    labelled a =
        subst (Labelled l) (sym square-is)
        (record { x-is = tests.x-rest m v half-below here ∙ ap remainder_x (label-of l w a); y-is = tests.y-rest m v half-below here ∙ ap remainder_y (label-of l w a) })

    pub on-grid : OnGrid u (square_of u l w)
    on-grid =
        subst (OnGrid u) (sym square-is)
        (record {
          x-odd = tests.x-odd m v half-below here;
          x-in = tests.x-in m v half-below here;
          y-odd = tests.y-odd m v half-below here;
          y-in = tests.y-in m v half-below here;
        })

    pub small : (nat_abs (square_of u l w).x ≤ 31) × (nat_abs (square_of u l w).y ≤ 31)
    small = (omega (arith, on-grid.x-in, side-is), omega (arith, on-grid.y-in, side-is))

    -- the bits can be read off the point
    bits-of : bits_of m (square_of u l w) ≡ all_bits l w
    bits-of = ap (bits_of m) square-is ∙ tests.bits_back m v half-below here

    turned-bits : (k : ℕ) (e : low_bits k ≡ 2 * (low_bits l % 2) + (1 - low_bits l / 2)) → number_turned (suc m) v ≡ all_bits k (number_turned m w)
    unfolding number_turned
    turned-bits k e =
        let f : v / 4 ≡ w = omega (arith, low_below l) in
        let x : v / 2 % 2 ≡ low_bits l / 2 = omega (arith, low_below l) in
        let y : v % 2 ≡ low_bits l % 2 = omega arith in
        ap (λ (n : ℕ). 4 * number_turned m n + 2 * (v % 2) + (1 - v / 2 % 2)) f ∙ omega (arith, e)

    pub turned-square : l < 4 → turned (square_of u l w) ≡ square_of u ((l + 1) % 4) (number_turned m w)
    unfolding square_of
    turned-square a =
        let e = turned-bits ((l + 1) % 4) (equal1 4 (λ l. low_bits ((l + 1) % 4)) (λ l. 2 * (low_bits l % 2) + (1 - low_bits l / 2)) tt l a) in
        let f : turned (square_of u l w) ≡ record { x = tests.y_of m v; y = neg_ℤ (tests.x_of m v) } = ap turned square-is in
        f
        ∙ ap₂ {C = Point} (λ (x y : ℤ). record { x = x; y = y }) (sym (tests.x-turned m v half-below here)) (sym (tests.y-turned m v half-below here))
        ∙ sym (point-is (number_turned (suc m) v))
        ∙ ap (grid_point (u + 2)) e

  module _ (w : ℕ) (b : w < 2 ^ u) where
    pub number-below : number_turned m w < 2 ^ u
    number-below = omega (arith, pairs_of, tests.turned-below m w half-below (omega (arith, pairs_of)))

    pub number-four : number_turned m (number_turned m (number_turned m (number_turned m w))) ≡ w
    number-four = tests.turned-four m w half-below (omega (arith, pairs_of))

  pub one_place : (l k w n : ℕ) → l < 4 → k < 4 → w < 2 ^ u → n < 2 ^ u → square_of u l w ≡ square_of u k n → (l ≡ k) × (w ≡ n)
  one_place l k w n a b c d e =
      let f : all_bits l w ≡ all_bits k n = sym (bits-of l w c) ∙ ap (bits_of m) e ∙ bits-of k n d in
      (sym (label-of l w a) ∙ ap label_of f ∙ label-of k n b, omega (arith, low_below l, low_below k))

  -- ---- every point of the grid

  field_below : (z : ℤ) → nat_abs z < 2 ^ (m + 1) → field_of m z < 2 ^ (m + 1)
  unfolding field_of
  field_below (pos n) h = omega arith
  field_below (negsuc n) h = omega arith

  field_is : (z : ℤ) → nat_abs z % 2 ≡ 1 → nat_abs z < 2 ^ (m + 1) → coordinate m (field_of m z) ≡ z
  field_is (pos n) o h =
      let e : pos (2 * (n / 2) + 1) ≡ pos n = ap pos (omega arith) in
      subst (λ (z : ℤ). coordinate m (field_of m z) ≡ z) e (tests.above m (n / 2) half-below (omega (arith, pow-add 2 m 1)))
  field_is (negsuc n) o h =
      let e : negsuc (2 * (n / 2)) ≡ negsuc n = ap negsuc (omega arith) in
      subst (λ (z : ℤ). coordinate m (field_of m z) ≡ z) e (tests.under m (n / 2) half-below (omega (arith, pow-add 2 m 1)))

  module _ (p : Point) (o : OnGrid u p) where
    abbrev i : ℕ
    i = field_of m p.x

    abbrev j : ℕ
    j = field_of m p.y

    pub i-below : i < 32
    i-below = omega (arith, field_below p.x o.x-in, side-is)

    pub j-below : j < 32
    j-below = omega (arith, field_below p.y o.y-in, side-is)

    woven-in : bits_of m p < 4 ^ (m + 1)
    woven-in = omega (arith, tests.spread-below m i half-below (field_below p.x o.x-in), tests.spread-below m j half-below (field_below p.y o.y-in))

    made : grid_point (u + 2) (bits_of m p) ≡ p
    made =
        let b = bits_of m p in
        let x = tests.x-is m b half-below woven-in ∙ ap (coordinate m) (tests.woven-x i j i-below j-below) ∙ field_is p.x o.x-odd o.x-in in
        let y = tests.y-is m b half-below woven-in ∙ ap (coordinate m) (tests.woven-y i j i-below j-below) ∙ field_is p.y o.y-odd o.y-in in
        point-is b ∙ ap₂ {C = Point} (λ (x y : ℤ). record { x = x; y = y }) x y

    pub place : IsPlace u p (record { l = label_of (bits_of m p); w = bits_of m p / 4 })
    unfolding square_of
    place =
        record {
          l-below = low_below (bits_of m p % 4);
          w-below = number-of (bits_of m p) woven-in;
          is-there = ap (grid_point (u + 2)) (all-bits (bits_of m p)) ∙ made;
        }

    -- and the label whose remainders it has
    pub label_is : (l : ℕ) → l < 4 → Labelled l p → label_of (bits_of m p) ≡ l
    label_is l h a =
        let k = label_of (bits_of m p) in
        let b : Labelled k p = subst (Labelled k) place.is-there (labelled k (bits_of m p / 4) place.w-below place.l-below) in
        let x : remainder_x k ≡ remainder_x l = sym b.x-is ∙ a.x-is in
        let y : remainder_y k ≡ remainder_y l = sym b.y-is ∙ a.y-is in
        sym (label-from k place.l-below) ∙ ap₂ label_from x y ∙ label-from l h

pub place-settled : (u : ℕ) (p : Point) (r s : Place) → is_width u ≡ true → IsPlace u p r → IsPlace u p s → r ≡ s
place-settled u p r s g a b =
    let e = one_place u g r.l s.l r.w s.w a.l-below b.l-below a.w-below b.w-below (a.is-there ∙ sym b.is-there) in
    λ i. record { l = e.0 i; w = e.1 i }
