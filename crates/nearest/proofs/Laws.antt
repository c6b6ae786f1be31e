-- What callers may rely on, over the definitions that the contracts name. Bounds on a row hold at every index, past its end too.
--   near-below, i3-below               a chosen number is below 2^u, a chosen I3' below 2
--   far-below                          "The squared distance of a 4D point from a received symbol stays below 2^30"
--   far-most                           what it counts for is at most 524,288
--   best-cost                          a subset's cost is what its best symbol counts for
--   costs-at, best-read                a subset's cost and its best symbol, read off what `weigh` answers
--   line-chooses                       the choice of the line is the first of its subset
--   counted-below, costs-most, i3s-below, w1-below, w2-below   the rows of `search` and `weigh`
use mathlib.Core.Path.{◌≡◌, refl}
use mathlib.Core.Bool.{true}
use Prim.Native.Nat.{ℕ, ◌+◌, ◌-◌, ◌^◌, ◌≤◌, ◌<◌}
use native.Mathlib.Omega.{arith}
use lib.ListN.{get_or}
use lib.Pow.{pow_pos}
use Rattle.wei.specs.Label.{turn_of, second_label}
use Rattle.wei.specs.State.{subset_of}
use Rattle.wei.specs.Symbol.{Symbol, Valid, first_label, last_label}
use Rattle.wei.proofs.Labels.{second_below}
use Rattle.points.specs.declared.Accord.{Accord}
use Rattle.points.specs.Agreed.{is_accord}
use Rattle.maps.specs.PointMap.{point_at}
use Rattle.maps.proofs.Apart.{small_at}
use Rattle.trellis.specs.Measure.{Two, counted, first_far, second_far, far_of}
use Rattle.trellis.specs.Pick.{near, gap_of, type_sum, best_i3, best_of, Chooses}
use Rattle.trellis.proofs.Least.{least-is}
use Rattle.trellis.proofs.Pairs.{pairs-chooses}
use Rattle.trellis.proofs.Counted.{counted-rises, counted-most, most}
use Rattle.nearest.specs.declared.Received.{Received}
use Rattle.nearest.specs.declared.Received.TheVariants.{Heard, Missing}
use Rattle.nearest.specs.Line.{InRange, BothInRange, line_distance, line_measure, line_choice}
use Rattle.nearest.specs.Found.{nearest_of, cost_of, weighed_of, picked_from}
use Rattle.round_search.proofs.Distances.{distance-below}
use Rattle.nearest.proofs.Rows.{four-at, eight-at, four-each, eight-each}

-- for any measure of two points
module _ {P : Type 0} (u : ℕ) (d : P → ℕ → ℕ → ℕ) where
  pub near-below : (p : P) (l : ℕ) → near u d p l < 2 ^ u
  unfolding near
  near-below p l = omega (arith, (least-is (d p l) (2 ^ u - 1)).low, pow_pos u)

  pub i3-below : (count : ℕ → ℕ) (y : Two P) (y0 i1 i2 : ℕ) → best_i3 u d count y y0 i1 i2 < 2
  unfolding best_i3
  i3-below count y y0 i1 i2 = omega (arith, (least-is (type_sum u d count y y0 i1 i2) 1).low)

line-below : (k : Accord) (h : Received) (l w : ℕ) → is_accord k ≡ true → InRange h → w < 2 ^ k.u → line_distance k h l w < 2 ^ 29
unfolding line_distance
line-below k (Heard s) l w g a b = distance-below s (point_at k l w) a (small_at k g l w b)
line-below k Missing l w g a b = omega arith

-- "The squared distance of a 4D point from a received symbol stays below 2^30"
pub far-below : (k : Accord) (y : Two Received) → is_accord k ≡ true → BothInRange y → (c : Symbol) → Valid k.u c →
    first_far Received (line_distance k) y c + second_far Received (line_distance k) y c < 2 ^ 30
unfolding first_far second_far
far-below k y g a c v =
    omega (
      arith,
      line-below k y.first (first_label c) c.w1 g a.first-in v.w1-below,
      line-below k y.second (last_label c) c.w2 g a.second-in v.w2-below,
    )

-- a symbol counts for no more than two caps, whatever was received
pub far-most : (k : Accord) (y : Two Received) (c : Symbol) → (line_measure k).far y c ≤ 524288
far-most k y c = most (line_distance k) y c

pub best-cost : (k : Accord) (y : Two Received) (y0 i1 i2 : ℕ) → (line_measure k).far y (line_choice k y y0 i1 i2) ≡ cost_of k y y0 i1 i2
unfolding far_of first_far second_far best_of cost_of type_sum gap_of last_label
best-cost k y y0 i1 i2 = refl

pub counted-below : (k : Accord) (h : Received) (i : ℕ) → get_or (nearest_of k h).counted i 0 < 2 ^ 29
unfolding nearest_of
counted-below k h = four-each (λ n. n < 2 ^ 29) (omega arith) (λ l. counted (gap_of k.u (line_distance k) h l)) (λ l. omega (arith, counted-most (gap_of k.u (line_distance k) h l)))

pub costs-most : (k : Accord) (y : Two Received) (i : ℕ) → get_or (weighed_of k y).costs i 0 ≤ 524288
unfolding weighed_of
costs-most k y = eight-each (λ n. n ≤ 524288) (omega arith) (cost_of k y) (λ y0 i1 i2. omega (arith, best-cost k y y0 i1 i2, far-most k y (line_choice k y y0 i1 i2)))

module _ (k : Accord) (y : Two Received) where
  pub i3s-below : (i : ℕ) → get_or (weighed_of k y).i3 i 0 < 2
  unfolding weighed_of
  i3s-below = eight-each (λ n. n < 2) (omega arith) (best_i3 k.u (line_distance k) counted y) (i3-below k.u (line_distance k) counted y)

  pub w1-below : (i : ℕ) → get_or (weighed_of k y).w1 i 0 < 2 ^ k.u
  unfolding weighed_of
  w1-below = four-each (λ n. n < 2 ^ k.u) (pow_pos k.u) (near k.u (line_distance k) y.first) (near-below k.u (line_distance k) y.first)

  pub w2-below : (i : ℕ) → get_or (weighed_of k y).w2 i 0 < 2 ^ k.u
  unfolding weighed_of
  w2-below = four-each (λ n. n < 2 ^ k.u) (pow_pos k.u) (near k.u (line_distance k) y.second) (near-below k.u (line_distance k) y.second)

  module _ (y0 i1 i2 : ℕ) (a : y0 < 2) (b : i1 < 2) (c : i2 < 2) where
    pub costs-at : get_or (weighed_of k y).costs (subset_of y0 i1 i2) 0 ≡ cost_of k y y0 i1 i2
    unfolding weighed_of
    costs-at = eight-at (cost_of k y) y0 i1 i2 a b c

    pub best-read : picked_from (weighed_of k y).i3 (weighed_of k y).w1 (weighed_of k y).w2 y0 i1 i2 ≡ line_choice k y y0 i1 i2
    unfolding picked_from weighed_of best_of
    best-read =
        let q = turn_of i2 (best_i3 k.u (line_distance k) counted y y0 i1 i2) in
        rw (eight-at (best_i3 k.u (line_distance k) counted y) y0 i1 i2 a b c)
        (cc (
          four-at (near k.u (line_distance k) y.first) q (omega (arith, i3-below k.u (line_distance k) counted y y0 i1 i2)),
          four-at (near k.u (line_distance k) y.second) (second_label q y0 i1) (second_below q y0 i1),
        ))

-- the choice is the first of its subset
pub line-chooses : (k : Accord) → Chooses k.u (line_measure k) (line_choice k)
line-chooses k = pairs-chooses k.u (line_distance k) counted counted-rises
