-- The nearest number of a label on the square map is woven of the nearest places on the two axes, as it is found.
--   stop-small       what is found on an axis is small
--   candidate-is     the nearest number and its squared distance, by what is found on the axes
use mathlib.Core.Path.{◌≡◌, sym, ap, ap₂, subst, ◌∙◌}
use mathlib.Core.Bool.{true}
use Prim.Native.Nat.{ℕ, ◌+◌, ◌-◌, ◌*◌, ◌/◌, ◌%◌, ◌^◌, ◌≤◌, ◌<◌}
use native.Mathlib.Nat.{mul-le-mul, add-mul, mul-add}
use native.Mathlib.Decide.{dec_lt}
use native.Mathlib.Omega.{arith}
use lib.IntN.{ℤ, nat_abs}
use lib.Pow.{pow-add, pow_pos, pow_mono}
use Rattle.trellis.specs.Pick.{near, gap_of}
use Rattle.trellis.proofs.Least.{IsLeast, least-is}
use Rattle.maps.specs.SquareMap.{is_width, low_bits, all_bits}
use Rattle.maps.specs.SquareBits.{gathered, spread, woven, coordinate}
use Rattle.maps.proofs.SquareTests.{woven-x, woven-y}
use Rattle.maps.proofs.SquareLaws.{low_below, half-below, pairs_of, side-is, square-x, square-y, x_below, y-below, woven-of}
use Rattle.distance.specs.declared.Spot.{Spot}
use Rattle.distance.specs.Distance.{SpotInRange, distance}
use Rattle.square_search.specs.declared.Stop.{Stop}
use Rattle.distance.specs.declared.Candidate.{Candidate}
use Rattle.square_search.specs.Found.{apart, square_distance}
use Rattle.square_search.specs.Axis.{origin_of, lowest, nearest_place, field_at, far, far_squared, stop_of, SmallStop, joined_of}
use Rattle.square_search.proofs.Places.{place_of, place-low, place-high, place-field, place-back, place-apart, field_below, spread-le, spread-small, spread-within, spread-step}
use Rattle.square_search.proofs.Axis.{place_in, no-nearer, first-of-equals}

-- squares grow with what is squared
square-grows : (a b : ℕ) → a < b → a * a < b * b
square-grows a b h =
    let g : a + 1 ≤ b = omega arith in
    let e : (a + 1) * (a + 1) ≤ b * b = mul-le-mul g g in
    omega (arith, add-mul a 1 (a + 1), mul-add a a 1)

square-root : (a b : ℕ) → a ≤ b → a * a ≡ b * b → a ≡ b
square-root a b h e = go (dec_lt a b)
  where
    go : Dec (a < b) → a ≡ b
    go (yes l) = absurd (omega (arith, square-grows a b l))
    go (no l) = omega arith

-- two numbers that are least are one
one-least : (f : ℕ → ℕ) (n a b : ℕ) → IsLeast f n a → IsLeast f n b → a ≡ b
one-least f n a b p q =
    let e : f a ≡ f b = omega (arith, p.is-least b q.low, q.is-least a p.low) in
    omega (arith, p.is-first b q.low e, q.is-first a p.low (sym e))

-- ---- one axis: the bits of the nearest coordinate of those with the bit e

module _ (m e : ℕ) (r : ℤ) (a : m < 5) (b : e < 2) (i : nat_abs r ≤ 8192) where
  abbrev g : ℕ
  g = origin_of r - 256 * e

  abbrev best : ℕ
  best = 2 * field_at m (nearest_place m e g) + e

  best-below : best < 2 ^ (m + 1)
  best-below = omega (arith, field_below m (nearest_place m e g), pow-add 2 m 1)

  best-place : place_of m best ≡ nearest_place m e g
  best-place = place-back m e (nearest_place m e g) a b (place_in m e g a b).0 (place_in m e g a b).1

  axis-apart : (k : ℕ) → k < 2 ^ (m + 1) → k % 2 ≡ e → apart r (coordinate m k) ≡ far_squared g (place_of m k)
  axis-apart k h z = place-apart m k r a h i ∙ ap (λ (n : ℕ). far_squared (origin_of r - 256 * n) (place_of m k)) z

  best-apart : apart r (coordinate m best) ≡ far_squared g (nearest_place m e g)
  best-apart = axis-apart best best-below (omega arith) ∙ ap (far_squared g) best-place

  module _ (k : ℕ) (h : k < 2 ^ (m + 1)) (z : k % 2 ≡ e) where
    low : lowest m e ≤ place_of m k
    low = subst (λ (n : ℕ). lowest m n ≤ place_of m k) z (let p : lowest m (k % 2) ≤ place_of m k = omega (arith, place-low m k a h) in p)

    high : place_of m k < lowest m e + 2 ^ m
    high = subst (λ (n : ℕ). place_of m k < lowest m n + 2 ^ m) z (place-high m k a h)

    farther : far g (nearest_place m e g) ≤ far g (place_of m k)
    farther = no-nearer m e g a b (place_of m k) low high

    axis-nearest : apart r (coordinate m best) ≤ apart r (coordinate m k)
    axis-nearest = omega (arith, best-apart, axis-apart k h z, mul-le-mul farther farther)

    axis-first : apart r (coordinate m best) ≡ apart r (coordinate m k) → field_at m (nearest_place m e g) ≤ k / 2
    axis-first q =
        let s = square-root (far g (nearest_place m e g)) (far g (place_of m k)) farther (sym best-apart ∙ q ∙ axis-apart k h z) in
        omega (arith, first-of-equals m e g a b (place_of m k) low high s, place-field m k a h)

-- ---- both axes

-- the nearest place to the received coordinate r of those with the bit e
abbrev pub stop_on : ℕ → ℤ → ℕ → Stop
stop_on m r e = stop_of m e (origin_of r - 256 * e)

-- which is small
pub stop-small : (m e g : ℕ) → m < 5 → e < 2 → g ≤ 16768 → SmallStop (stop_of m e g)
unfolding stop_of
stop-small m e g a b h =
    let t = nearest_place m e g in
    let s : 2 ^ m ≤ 16 = pow_mono (let z : m ≤ 4 = omega arith in z) in
    let p = place_in m e g a b in
    let f : far g t ≤ 16768 = omega (arith, p.1) in
    record { s-small = spread-small (field_at m t) (omega (arith, field_below m t)); d_small = omega (arith, mul-le-mul f f) }

gathered-low : (n : ℕ) → gathered n % 2 ≡ n % 2
unfolding gathered
gathered-low n = omega arith

module _ (u : ℕ) (ok : is_width u ≡ true) (h : Spot) (i : SpotInRange h) (l : ℕ) where
  abbrev x : ℤ
  x = h.x

  abbrev y : ℤ
  y = h.y

  abbrev m : ℕ
  m = u / 2

  m-below : m < 5
  m-below = half-below u ok

  -- the label's bits on the axes
  abbrev ex : ℕ
  ex = low_bits l / 2

  abbrev ey : ℕ
  ey = low_bits l % 2

  ex-below : ex < 2
  ex-below = omega (arith, low_below l)

  ey-below : ey < 2
  ey-below = omega arith

  -- the fields of the nearest places
  abbrev px : ℕ
  px = field_at m (nearest_place m ex (origin_of x - 256 * ex))

  abbrev py : ℕ
  py = field_at m (nearest_place m ey (origin_of y - 256 * ey))

  abbrev found : ℕ
  found = 2 * spread px + spread py

  module _ (w : ℕ) (b : w < 2 ^ u) where
    abbrev kx : ℕ
    kx = gathered (all_bits l w / 2)

    abbrev ky : ℕ
    ky = gathered (all_bits l w)

    kx-bit : kx % 2 ≡ ex
    kx-bit = gathered-low (all_bits l w / 2) ∙ omega (arith, low_below l)

    ky-bit : ky % 2 ≡ ey
    ky-bit = gathered-low (all_bits l w) ∙ omega (arith, low_below l)

    kx-below : kx < 2 ^ (m + 1)
    kx-below = x_below u ok l w b

    ky-below : ky < 2 ^ (m + 1)
    ky-below = y-below u ok l w b

    apart-is : square_distance u h l w ≡ apart x (coordinate m kx) + apart y (coordinate m ky)
    unfolding square_distance distance
    apart-is = ap₂ (λ (a b : ℤ). apart x a + apart y b) (square-x u ok l w b) (square-y u ok l w b)

    number_is : w ≡ 2 * spread (kx / 2) + spread (ky / 2)
    number_is =
        let sx = spread-step kx (omega (arith, kx-below, side-is u ok)) in
        let sy = spread-step ky (omega (arith, ky-below, side-is u ok)) in
        omega (arith, woven-of u ok l w b, sx, sy, kx-bit, ky-bit, low_below l)

  -- the bits of what is found
  bx-below : 2 * px + ex < 2 ^ (m + 1)
  bx-below = best-below m ex x m-below ex-below i.x-in

  by-below : 2 * py + ey < 2 ^ (m + 1)
  by-below = best-below m ey y m-below ey-below i.y-in

  bx-low : 2 * px + ex < 32
  bx-low = omega (arith, bx-below, side-is u ok)

  by-low : 2 * py + ey < 32
  by-low = omega (arith, by-below, side-is u ok)

  found-bits : all_bits l found ≡ woven (2 * px + ex) (2 * py + ey)
  found-bits =
      omega (
        arith,
        spread-step (2 * px + ex) bx-low,
        spread-step (2 * py + ey) by-low,
        ap spread (let e : (2 * px + ex) / 2 ≡ px = omega (arith, ex-below) in e),
        ap spread (let e : (2 * py + ey) / 2 ≡ py = omega arith in e),
        low_below l,
      )

  found-x : gathered (all_bits l found / 2) ≡ 2 * px + ex
  found-x = ap (λ (v : ℕ). gathered (v / 2)) found-bits ∙ woven-x (2 * px + ex) (2 * py + ey) bx-low by-low

  found-y : gathered (all_bits l found) ≡ 2 * py + ey
  found-y = ap gathered found-bits ∙ woven-y (2 * px + ex) (2 * py + ey) bx-low by-low

  found_below : found < 2 ^ u
  found_below =
      omega (
        arith,
        pairs_of u ok,
        spread-within m px m-below (field_below m (nearest_place m ex (origin_of x - 256 * ex))),
        spread-within m py m-below (field_below m (nearest_place m ey (origin_of y - 256 * ey))),
      )

  found-apart : square_distance u h l found ≡ apart x (coordinate m (2 * px + ex)) + apart y (coordinate m (2 * py + ey))
  found-apart = apart-is found found_below ∙ ap₂ (λ (a b : ℕ). apart x (coordinate m a) + apart y (coordinate m b)) found-x found-y

  module _ (w : ℕ) (b : w < 2 ^ u) where
    near-x : apart x (coordinate m (2 * px + ex)) ≤ apart x (coordinate m (kx w b))
    near-x = axis-nearest m ex x m-below ex-below i.x-in (kx w b) (kx-below w b) (kx-bit w b)

    near-y : apart y (coordinate m (2 * py + ey)) ≤ apart y (coordinate m (ky w b))
    near-y = axis-nearest m ey y m-below ey-below i.y-in (ky w b) (ky-below w b) (ky-bit w b)

    found-nearest : square_distance u h l found ≤ square_distance u h l w
    found-nearest = omega (arith, found-apart, apart-is w b, near-x, near-y)

    -- as near on both axes, so with no smaller field on either
    found_first : square_distance u h l found ≡ square_distance u h l w → found ≤ w
    found_first e =
        let ax : apart x (coordinate m (2 * px + ex)) ≡ apart x (coordinate m (kx w b)) = omega (arith, found-apart, apart-is w b, near-x, near-y) in
        let ay : apart y (coordinate m (2 * py + ey)) ≡ apart y (coordinate m (ky w b)) = omega (arith, found-apart, apart-is w b, near-x, near-y) in
        let fx = axis-first m ex x m-below ex-below i.x-in (kx w b) (kx-below w b) (kx-bit w b) ax in
        let fy = axis-first m ey y m-below ey-below i.y-in (ky w b) (ky-below w b) (ky-bit w b) ay in
        omega (
          arith,
          number_is w b,
          spread-le px (kx w b / 2) fx (omega (arith, kx-below w b, side-is u ok)),
          spread-le py (ky w b / 2) fy (omega (arith, ky-below w b, side-is u ok)),
        )

  found-least : IsLeast (square_distance u h l) (2 ^ u - 1) found
  found-least =
      record {
        low = omega (arith, found_below);
        is-least = λ w b. found-nearest w (omega (arith, pow_pos u));
        is-first = λ w b e. found_first w (omega (arith, pow_pos u)) e;
      }

  nearest-is : near u (square_distance u) h l ≡ found
  unfolding near
  nearest-is = one-least (square_distance u h l) (2 ^ u - 1) _ found (least-is (square_distance u h l) (2 ^ u - 1)) found-least

  distance_is : gap_of u (square_distance u) h l ≡ (stop_on m x ex).d + (stop_on m y ey).d
  unfolding gap_of stop_of
  distance_is =
      ap (square_distance u h l) nearest-is
      ∙ found-apart
      ∙ ap₂ (λ (a b : ℕ). a + b) (best-apart m ex x m-below ex-below i.x-in) (best-apart m ey y m-below ey-below i.y-in)

  pub candidate-is : joined_of (stop_on m x ex) (stop_on m y ey) ≡ record { w = near u (square_distance u) h l; d = gap_of u (square_distance u) h l }
  unfolding stop_of
  candidate-is = ap₂ {C = Candidate} (λ (w d : ℕ). record { w = w; d = d }) (sym nearest-is) (sym distance_is)
