-- The search by columns is the search over the numbers below 2^u: a label's points are those of A, seen from the received point turned
-- back.
--   column-keys   the keys of the four labels
use mathlib.Core.Path.{◌≡◌, refl, ap, ap₂, ◌∙◌}
use Prim.Native.Nat.{ℕ, ◌-◌, ◌^◌}
use native.Mathlib.Omega.{arith}
use lib.IntN.{ℤ, neg_ℤ}
use mir.Syntax.{w32}
use mir.Val.{to_z, of_z}
use Rattle.points.specs.declared.Point.{Point}
use Rattle.points.specs.Points.{a_point}
use Rattle.points.specs.Turn.{turned, turns, point_of}
use Rattle.points.proofs.Signed.{reads, neg-neg}
use Rattle.trellis.specs.Pick.{least}
use Rattle.distance.specs.declared.Spot.{Spot}
use Rattle.distance.specs.Distance.{SpotInRange, distance}
use Rattle.round_columns.specs.declared.Keys.{Keys}
use Rattle.round_columns.specs.Near.{spot_at, near_key, near_keys}
use Rattle.round_columns.proofs.Nearness.{near-as}
use Rattle.round_search.specs.Key.{round_distance, turned_back, key_of, least_keys}
use Rattle.round_search.proofs.Distances.{back}

label-key : (u l : ℕ) (h s : Spot) → ((p : Point) → distance s p ≡ distance h (turns l p)) →
    near_key u s ≡ key_of (round_distance h l) (least (round_distance h l) (2 ^ u - 1))
unfolding round_distance point_of
label-key u l h s e = near-as (round_distance h l) u s (λ w. e (a_point w))

-- the coordinates were passed on to a call
pub column-keys : (u : ℕ) (h : Spot) (k : Keys) → SpotInRange h → k ≡ near_keys u (to_z w32 (of_z w32 h.x)) (to_z w32 (of_z w32 h.y)) →
    k ≡ least_keys h (2 ^ u)
unfolding least_keys near_keys turned_back
column-keys u h k r e =
    let h1 = turned_back h in
    let h2 = turned_back h1 in
    let x = reads w32 h.x (omega (arith, r.x-in)) in
    let y = reads w32 h.y (omega (arith, r.y-in)) in
    let f : k ≡ near_keys u h.x h.y = e ∙ ap₂ (near_keys u) x y in
    let d : turned_back h2 ≡ spot_at h.y (neg_ℤ h.x) = ap (λ (z : ℤ). spot_at z (neg_ℤ h.x)) (neg-neg h.y) in
    cc (
      f,
      label-key u 0 h (spot_at h.x h.y) (λ p. refl),
      label-key u 1 h (spot_at (neg_ℤ h.y) h.x) (λ p. cc (back h p)),
      label-key u 2 h (spot_at (neg_ℤ h.x) (neg_ℤ h.y)) (λ p. cc (back h (turned p), back h1 p)),
      label-key u 3 h (spot_at h.y (neg_ℤ h.x)) (λ p. cc (d, back h (turned (turned p)), back h1 (turned p), back h2 p)),
    )
