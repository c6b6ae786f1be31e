-- On the line: where each coordinate is at most n off, another symbol costs `margin n` more for each coordinate in which its points must differ
-- from the sent ones.
--   labels-gap       how much nearer the sent point is than one with another label; counted-labels, counted
--   symbol-clear     the same of a symbol
use mathlib.Core.Path.{◌≡◌}
use mathlib.Core.Bool.{true}
use Prim.Native.Nat.{ℕ, ◌+◌, ◌*◌, ◌≤◌}
use native.Mathlib.Nat.{mul-add, mul-le-mul_left}
use native.Mathlib.Omega.{arith}
use Rattle.wei.specs.Symbol.{Symbol, first_label, last_label, Valid}
use Rattle.points.specs.declared.Accord.{Accord}
use Rattle.points.specs.declared.Point.{Point}
use Rattle.points.specs.Agreed.{is_accord}
use Rattle.points.specs.Turn.{remainder_x, remainder_y}
use Rattle.maps.specs.PointMap.{first_at, second_at}
use Rattle.trellis.specs.Measure.{Two, cap, counted}
use Rattle.distance.specs.declared.Spot.{Spot}
use Rattle.distance.specs.Distance.{difference, square, distance}
use Rattle.nearest.specs.declared.Received.{Received}
use Rattle.nearest.specs.declared.Received.TheVariants.{Heard, Missing}
use Rattle.nearest.specs.Found.{heard_as}
use Rattle.nearest.specs.Line.{line_measure}
use Rattle.promises.specs.Noise.{Near, Landed}
use Rattle.promises.proofs.Coordinates.{margin, unlike, unlike-gap}
use Rattle.promises.proofs.Points.{InUse, in_use, wider, near-far, near-only, only-closest, far-points, first_below, last-below}
use Rattle.margins.proofs.Potential.{unlike_labels, weight-labels}
use Rattle.margins.proofs.Parted.{weight_of, Clear}
use Rattle.margins.proofs.Leaving.{unlike-most}
use Rattle.promises.proofs.Carried.{LandedOn}

module _ (n : ℕ) (small : n ≤ 127) where
  -- p was sent, with the label l
  labels-gap : (h : Spot) (p q : Point) (l m : ℕ) → Near n h p → InUse l p → InUse m q → distance h p + margin n * unlike_labels m l ≤ distance h q
  unfolding distance
  labels-gap h p q l m w a b =
      let x : square (difference h.x p.x) + margin n * unlike (remainder_x m) (remainder_x l) ≤ square (difference h.x q.x) =
      rw (a.labelled.x-is, b.labelled.x-is) at (unlike-gap n small h.x p.x q.x w.x-near a.x-placed b.x-placed) in
      let y : square (difference h.y p.y) + margin n * unlike (remainder_y m) (remainder_y l) ≤ square (difference h.y q.y) =
      rw (a.labelled.y-is, b.labelled.y-is) at (unlike-gap n small h.y p.y q.y w.y-near a.y-placed b.y-placed) in
      omega (arith, x, y, mul-add (margin n) (unlike (remainder_x m) (remainder_x l)) (unlike (remainder_y m) (remainder_y l)))

  counted-gap : (a b k : ℕ) → a + k ≤ b → a + k ≤ cap → counted a + k ≤ counted b
  unfolding counted
  counted-gap a b k h l = omega arith

  -- no more than the cap leaves room for
  label-most : (L l m : ℕ) → L ≤ 65536 → L * unlike_labels m l ≤ 131072
  label-most L l m h =
      let z : unlike_labels m l ≤ 2 = omega (arith, unlike-most (remainder_x m) (remainder_x l), unlike-most (remainder_y m) (remainder_y l)) in
      omega (arith, mul-le-mul_left L z)

  counted-labels : (h : Spot) (p q : Point) (l m : ℕ) → Near n h p → InUse l p → InUse m q → counted (distance h p) + margin n * unlike_labels m l ≤ counted (distance h q)
  counted-labels h p q l m w a b =
      counted-gap (distance h p) (distance h q) (margin n * unlike_labels m l) (labels-gap h p q l m w a b)
      (omega (arith, near-far n h p small w, label-most (margin n) l m (let z : margin n ≤ 65536 = omega arith in z)))

  module _ (ac : Accord) (g : is_accord ac ≡ true) (c : Symbol) (v : Valid ac.u c) where
    points-clear : (f s : Spot) → Near n f (first_at ac c) → Near n s (second_at ac c) → Clear ac.u (line_measure ac) (margin n) (heard_as (Heard f) (Heard s)) c
    unfolding first_at second_at
    points-clear f s x y =
        record {
          closest = only-closest ac g c v f s (near-only ac g f (first_label c) c.w1 (first_below ac.u c v) v.w1-below (wider n 127 f (first_at ac c) small x))
              (near-only ac g s (last_label c) c.w2 (last-below c) v.w2-below (wider n 127 s (second_at ac c) small y));
          gap = gap;
        }
      where
        first-used : (d : Symbol) → Valid ac.u d → InUse (first_label d) (first_at ac d)
        first-used d w = in_use ac g (first_label d) d.w1 (first_below ac.u d w) w.w1-below

        last-used : (d : Symbol) → Valid ac.u d → InUse (last_label d) (second_at ac d)
        last-used d w = in_use ac g (last_label d) d.w2 (last-below d) w.w2-below

        gap : (d : Symbol) → Valid ac.u d → (line_measure ac).far (heard_as (Heard f) (Heard s)) c + margin n * weight_of d c ≤ (line_measure ac).far (heard_as (Heard f) (Heard s)) d
        gap d w =
            let i = counted-labels f (first_at ac c) (first_at ac d) (first_label c) (first_label d) x (first-used c v) (first-used d w) in
            let j = counted-labels s (second_at ac c) (second_at ac d) (last_label c) (last_label d) y (last-used c v) (last-used d w) in
            let m = mul-le-mul_left (margin n) (weight-labels ac.u d c w v) in
            omega (arith, far-points ac f s c, far-points ac f s d, i, j, m, mul-add (margin n) (unlike_labels (first_label d) (first_label c)) (unlike_labels (last_label d) (last_label c)))

    pub symbol-clear : (r : Two Received) → LandedOn ac (Near n) r c → Clear ac.u (line_measure ac) (margin n) r c
    symbol-clear r z = go r.first r.second z.on-first z.on-second
      where
        go : (f s : Received) → Landed (Near n) f (first_at ac c) → Landed (Near n) s (second_at ac c) → Clear ac.u (line_measure ac) (margin n) (heard_as f s) c
        go (Heard f) (Heard s) x y = points-clear f s x y
        go (Heard f) Missing x y = absurd y
        go Missing s x y = absurd x
