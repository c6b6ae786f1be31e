-- What it takes to leave the sent symbol: of each subset some symbol costs little more. On a crowded line it is one whose points are neighbours of
-- those sent; on any line the first point goes to a neighbour, and the second counts for the cap at most.
--   neighbour        on a crowded line there is a point of each label beside every point
--   point-reach      it is not much further
--   third            the I3' that goes with Y0, I1 and I2' then
--   symbol-crowded   the symbol of both neighbours
--   most n, symbol-any   on any line
use mathlib.Core.Path.{◌≡◌, refl, ap}
use mathlib.Core.Bool.{Bool, true, false, cond}
use mathlib.Core.Logic.{◌⊎◌, inl, ⊎_elim}
use Prim.Native.Nat.{ℕ, ◌+◌, ◌*◌, ◌/◌, ◌%◌, ◌^◌, ◌≤◌, ◌<◌}
use native.Mathlib.Nat.{mul-add, mul-le-mul_left}
use native.Mathlib.Decide.{ℕ_discrete}
use native.Mathlib.Omega.{arith}
use lib.Dec.{T, eqb, leb, leb→le}
use lib.Pow.{pow_pos}
use Rattle.wei.specs.Label.{turn_of, second_label}
use Rattle.wei.specs.Symbol.{Symbol, first_label, last_label, Valid}
use Rattle.wei.proofs.Finite.{equal1}
use Rattle.wei.proofs.Labels.{second_below}
use Rattle.points.specs.declared.Accord.{Accord}
use Rattle.points.specs.declared.Map.{Map}
use Rattle.points.specs.declared.Map.TheVariants.{Round, Square}
use Rattle.points.specs.declared.Point.{Point}
use Rattle.points.specs.Agreed.{has_width, is_accord}
use Rattle.points.specs.Turn.{remainder_x, remainder_y}
use Rattle.maps.specs.PointMap.{point_on, point_at, first_at, second_at}
use Rattle.trellis.specs.Measure.{Two, cap, counted}
use Rattle.trellis.proofs.Counted.{counted-most}
use Rattle.distance.specs.declared.Spot.{Spot}
use Rattle.distance.specs.Distance.{distance}
use Rattle.nearest.specs.declared.Received.{Received}
use Rattle.nearest.specs.declared.Received.TheVariants.{Heard, Missing}
use Rattle.nearest.specs.Found.{heard_as}
use Rattle.nearest.specs.Line.{line_measure}
use Rattle.promises.specs.Noise.{Near, Landed}
use Rattle.margins.specs.Latest.{crowded_at, crowded}
use Rattle.promises.proofs.Coordinates.{unlike}
use Rattle.margins.proofs.Bits.{bits3, bits4, at-bits3, at-bits4}
use Rattle.margins.proofs.Reach.{reach, coordinate-reach}
use Rattle.promises.proofs.Points.{InUse, in_use, far-points, first_below, last-below}
use Rattle.margins.proofs.Potential.{unlike_labels}
use Rattle.margins.proofs.RoundNeighbours.{Beside, Neighbour, round-beside, round-odd}
use Rattle.margins.proofs.SquareNeighbours.{square-beside}
use Rattle.margins.proofs.Detour.{Instead, Handy}
use Rattle.promises.proofs.Carried.{LandedOn}

-- ---- points

on-map : (n : Map) (u : ℕ) → has_width n u ≡ true → crowded_at n u ≡ true → (l w m : ℕ) → l < 4 → w < 2 ^ u → m < 4 → Neighbour (point_on n u) u l m (point_on n u l w)
on-map Round u g c l w m h f k = round-beside u g w f c l m h k
on-map Square u g c l w m h f k = square-beside u g l w m h f k

neighbour : (k : Accord) → is_accord k ≡ true → crowded k ≡ true → (l w m : ℕ) → l < 4 → w < 2 ^ k.u → m < 4 → Neighbour (point_at k) k.u l m (point_at k l w)
neighbour k = on-map k.map k.u

pub unlike-most : (a b : ℕ) → unlike a b ≤ 1
unlike-most a b = go (eqb a b)
  where
    go : (t : Bool) → cond t 0 1 ≤ 1
    go true = omega arith
    go false = omega arith

module _ (n : ℕ) (small : n ≤ 127) where
  point-reach : (h : Spot) (p q : Point) (l m : ℕ) → Near n h p → InUse l p → InUse m q → Beside (unlike (remainder_x m) (remainder_x l)) (unlike (remainder_y m) (remainder_y l)) p q →
      distance h q ≤ distance h p + reach n * unlike_labels m l
  unfolding distance
  point-reach h p q l m w a b e =
      omega (
        arith,
        coordinate-reach n small h.x p.x q.x w.x-near a.x-placed b.x-placed (unlike (remainder_x m) (remainder_x l)) (unlike-most (remainder_x m) (remainder_x l)) e.x-beside,
        coordinate-reach n small h.y p.y q.y w.y-near a.y-placed b.y-placed (unlike (remainder_y m) (remainder_y l)) (unlike-most (remainder_y m) (remainder_y l)) e.y-beside,
        mul-add (reach n) (unlike (remainder_x m) (remainder_x l)) (unlike (remainder_y m) (remainder_y l)),
      )

counted-reach : (a b k : ℕ) → b ≤ a + k → counted b ≤ counted a + k
unfolding counted
counted-reach a b k h = omega arith

-- ---- I3', computed

-- by Y0, I1, I2', I3' of the one symbol and Y0, I1, I2', I3' of the other
abbrev apart_by : ℕ → ℕ → ℕ → ℕ → ℕ → ℕ → ℕ → ℕ → ℕ
apart_by y i j h z k l m = unlike_labels (turn_of l m) (turn_of j h) + unlike_labels (second_label (turn_of l m) z k) (second_label (turn_of j h) y i)

unfoldable third : ℕ → ℕ → ℕ → ℕ → ℕ → ℕ → ℕ → ℕ
unfolding second_label
third y i j h z k l = cond (leb (apart_by y i j h z k l 0) 2) 0 1

third-below : (y i j h z k l : ℕ) → third y i j h z k l < 2
unfolding third
third-below y i j h z k l = go (leb (apart_by y i j h z k l 0) 2)
  where
    go : (t : Bool) → cond t 0 1 < 2
    go true = omega arith
    go false = omega arith

abbrev third_test : ℕ → ℕ → ℕ → ℕ → ℕ → ℕ → ℕ → Bool
third_test y i j h z k l = leb (apart_by y i j h z k l (third y i j h z k l)) 2

third-computed : T (bits4 (λ y i j h. bits3 (third_test y i j h)))
unfolding third second_label
third-computed = tt

third-apart : (y i j h z k l : ℕ) → y < 2 → i < 2 → j < 2 → h < 2 → z < 2 → k < 2 → l < 2 → apart_by y i j h z k l (third y i j h z k l) ≤ 2
third-apart y i j h z k l a b c d e f g =
    leb→le (apart_by y i j h z k l (third y i j h z k l)) 2
    (at-bits3 (third_test y i j h) (at-bits4 (λ y i j h. bits3 (third_test y i j h)) third-computed y i j h a b c d) z k l e f g)

-- ---- symbols

module _ (n : ℕ) (small : n ≤ 127) (ac : Accord) (g : is_accord ac ≡ true) (e : crowded ac ≡ true) (c : Symbol) (v : Valid ac.u c) where
  module _ (f s : Spot) (x : Near n f (first_at ac c)) (t : Near n s (second_at ac c)) (y i j : ℕ) (hy : y < 2) (hi : i < 2) (hj : j < 2) where
    abbrev m : ℕ
    m = third c.y0 c.i1 c.i2 c.i3 y i j

    first-label : turn_of j m < 4
    first-label = omega (arith, third-below c.y0 c.i1 c.i2 c.i3 y i j)

    one : Neighbour (point_at ac) ac.u (first_label c) (turn_of j m) (point_at ac (first_label c) c.w1)
    one = neighbour ac g e (first_label c) c.w1 (turn_of j m) (first_below ac.u c v) v.w1-below first-label

    two : Neighbour (point_at ac) ac.u (last_label c) (second_label (turn_of j m) y i) (point_at ac (last_label c) c.w2)
    two = neighbour ac g e (last_label c) c.w2 (second_label (turn_of j m) y i) (last-below c) v.w2-below (second_below (turn_of j m) y i)

    abbrev made : Symbol
    made = record { y0 = y; i1 = i; i2 = j; i3 = m; w1 = one.number; w2 = two.number }

    near-one : distance f (first_at ac made) ≤ distance f (first_at ac c) + reach n * unlike_labels (turn_of j m) (first_label c)
    unfolding first_at
    near-one =
        point-reach n small f (first_at ac c) (first_at ac made) (first_label c) (turn_of j m) x (in_use ac g (first_label c) c.w1 (first_below ac.u c v) v.w1-below)
        (in_use ac g (turn_of j m) one.number first-label one.number-below) one.beside

    near-two : distance s (second_at ac made) ≤ distance s (second_at ac c) + reach n * unlike_labels (second_label (turn_of j m) y i) (last_label c)
    unfolding second_at last_label
    near-two =
        point-reach n small s (second_at ac c) (second_at ac made) (last_label c) (second_label (turn_of j m) y i) t (in_use ac g (last_label c) c.w2 (last-below c) v.w2-below)
        (in_use ac g (second_label (turn_of j m) y i) two.number (second_below (turn_of j m) y i) two.number-below) two.beside

    apart-two : unlike_labels (turn_of j m) (first_label c) + unlike_labels (second_label (turn_of j m) y i) (last_label c) ≤ 2
    unfolding last_label
    apart-two = third-apart c.y0 c.i1 c.i2 c.i3 y i j v.y0-below v.i1-below v.i2-below v.i3-below hy hi hj

    points-instead : Instead ac.u (line_measure ac) (2 * reach n) (heard_as (Heard f) (Heard s)) c y i j
    points-instead =
        record {
          by = made;
          by-valid = record {
            y0-below = hy;
            i1-below = hi;
            i2-below = hj;
            i3-below = third-below c.y0 c.i1 c.i2 c.i3 y i j;
            w1-below = one.number-below;
            w2-below = two.number-below;
          };
          has-y0 = refl;
          has-i1 = refl;
          has-i2 = refl;
          costs = omega (
            arith,
            far-points ac f s made,
            far-points ac f s c,
            counted-reach (distance f (first_at ac c)) (distance f (first_at ac made)) (reach n * unlike_labels (turn_of j m) (first_label c)) near-one,
            counted-reach (distance s (second_at ac c)) (distance s (second_at ac made)) (reach n * unlike_labels (second_label (turn_of j m) y i) (last_label c)) near-two,
            mul-add (reach n) (unlike_labels (turn_of j m) (first_label c)) (unlike_labels (second_label (turn_of j m) y i) (last_label c)),
            mul-le-mul_left (reach n) apart-two,
          );
        }

  pub symbol-crowded : (r : Two Received) → LandedOn ac (Near n) r c → Handy ac.u (line_measure ac) (2 * reach n) r c
  symbol-crowded r z = go r.first r.second z.on-first z.on-second
    where
      go : (f s : Received) → Landed (Near n) f (first_at ac c) → Landed (Near n) s (second_at ac c) → Handy ac.u (line_measure ac) (2 * reach n) (heard_as f s) c
      go (Heard f) (Heard s) x y = points-instead f s x y
      go (Heard f) Missing x y = absurd y
      go Missing s x y = absurd x

-- ---- on any line

-- the first point can be left for a neighbour, and the second costs no more than the cap wherever it is
abbrev pub most : ℕ → ℕ
most n = cap + reach n

odd-on : (n : Map) (u : ℕ) → has_width n u ≡ true → (l w : ℕ) → l < 4 → w < 2 ^ u →
    Neighbour (point_on n u) u l ((l + 1) % 4) (point_on n u l w) ⊎ Neighbour (point_on n u) u l ((l + 3) % 4) (point_on n u l w)
odd-on Round u g l w h f = round-odd u g w f l h
odd-on Square u g l w h f = inl (square-beside u g l w ((l + 1) % 4) h f (omega arith))

unlike-next : (l : ℕ) → l < 4 → unlike_labels ((l + 1) % 4) l ≡ 1
unlike-next = equal1 4 (λ l. unlike_labels ((l + 1) % 4) l) (λ l. 1) tt

unlike-before : (l : ℕ) → l < 4 → unlike_labels ((l + 3) % 4) l ≡ 1
unlike-before = equal1 4 (λ l. unlike_labels ((l + 3) % 4) l) (λ l. 1) tt

module _ (n : ℕ) (small : n ≤ 127) (ac : Accord) (g : is_accord ac ≡ true) (c : Symbol) (v : Valid ac.u c) where
  module _ (f s : Spot) (x : Near n f (first_at ac c)) (y i j : ℕ) (hy : y < 2) (hi : i < 2) (hj : j < 2) where
    -- by I3' and the number of the first point
    abbrev other : ℕ → ℕ → Symbol
    other h w = record { y0 = y; i1 = i; i2 = j; i3 = h; w1 = w; w2 = 0 }

    other-instead : (h w : ℕ) → h < 2 → w < 2 ^ ac.u → distance f (first_at ac (other h w)) ≤ distance f (first_at ac c) + reach n →
        Instead ac.u (line_measure ac) (most n) (heard_as (Heard f) (Heard s)) c y i j
    other-instead h w a b d =
        record {
          by = other h w;
          by-valid = record { y0-below = hy; i1-below = hi; i2-below = hj; i3-below = a; w1-below = b; w2-below = pow_pos ac.u };
          has-y0 = refl;
          has-i1 = refl;
          has-i2 = refl;
          costs = omega (
            arith,
            far-points ac f s (other h w),
            far-points ac f s c,
            counted-reach (distance f (first_at ac c)) (distance f (first_at ac (other h w))) (reach n) d,
            counted-most (distance s (second_at ac (other h w))),
          );
        }

    -- the first point stays
    stay : j ≡ c.i2 → Instead ac.u (line_measure ac) (most n) (heard_as (Heard f) (Heard s)) c y i j
    unfolding first_at
    stay e =
        other-instead c.i3 c.w1 v.i3-below v.w1-below
        (let d : distance f (first_at ac (other c.i3 c.w1)) ≡ distance f (first_at ac c) = ap (λ (k : ℕ). distance f (point_at ac (turn_of k c.i3) c.w1)) e in omega arith)

    -- the first point goes to a neighbour with the label m
    leave : (m : ℕ) → m < 4 → m % 2 ≡ j → unlike_labels m (first_label c) ≡ 1 → Neighbour (point_at ac) ac.u (first_label c) m (point_at ac (first_label c) c.w1) →
        Instead ac.u (line_measure ac) (most n) (heard_as (Heard f) (Heard s)) c y i j
    unfolding first_at
    leave m h e o N =
        let t : turn_of j (m / 2) ≡ m = omega arith in
        let d : distance f (point_at ac m N.number) ≤ distance f (first_at ac c) + reach n * unlike_labels m (first_label c) =
        point-reach n small f (first_at ac c) (point_at ac m N.number) (first_label c) m x (in_use ac g (first_label c) c.w1 (first_below ac.u c v) v.w1-below)
        (in_use ac g m N.number h N.number-below) N.beside in
        let z : reach n * unlike_labels m (first_label c) ≡ reach n * 1 = ap (λ (k : ℕ). reach n * k) o in
        let q : distance f (first_at ac (other (m / 2) N.number)) ≡ distance f (point_at ac m N.number) = ap (λ (k : ℕ). distance f (point_at ac k N.number)) t in
        other-instead (m / 2) N.number (omega arith) N.number-below (omega (arith, d, z, q))

    any-instead : Instead ac.u (line_measure ac) (most n) (heard_as (Heard f) (Heard s)) c y i j
    any-instead = go (ℕ_discrete j c.i2)
      where
        go : Dec (j ≡ c.i2) → Instead ac.u (line_measure ac) (most n) (heard_as (Heard f) (Heard s)) c y i j
        go (yes e) = stay e
        go (no e) =
            let b = first_below ac.u c v in
            ⊎_elim (λ N. leave ((first_label c + 1) % 4) (omega arith) (omega (arith, e, v.i2-below)) (unlike-next (first_label c) b) N)
            (λ N. leave ((first_label c + 3) % 4) (omega arith) (omega (arith, e, v.i2-below)) (unlike-before (first_label c) b) N)
            (odd-on ac.map ac.u g (first_label c) c.w1 b v.w1-below)

  pub symbol-any : (r : Two Received) → LandedOn ac (Near n) r c → Handy ac.u (line_measure ac) (most n) r c
  symbol-any r z = go r.first r.second z.on-first z.on-second
    where
      go : (f s : Received) → Landed (Near n) f (first_at ac c) → Landed (Near n) s (second_at ac c) → Handy ac.u (line_measure ac) (most n) (heard_as f s) c
      go (Heard f) (Heard s) x y = any-instead f s x
      go (Heard f) Missing x y = absurd y
      go Missing s x y = absurd x
