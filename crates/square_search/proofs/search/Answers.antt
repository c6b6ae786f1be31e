-- `search`: what is found on each axis for the bits 0 and 1, joined for each label.
use mathlib.Core.Path.{◌≡◌, sym, ap, ap₂, subst, ◌∙◌}
use mathlib.Core.List.{[], ◌∷◌}
use Prim.Native.Nat.{ℕ, zero, suc, ◌-◌, ◌*◌, ◌/◌, ◌%◌, ◌≤◌, ◌<◌}
use native.Mathlib.Omega.{arith}
use lib.IntN.{ℤ, nat_abs}
use mir.Syntax.{w32}
use mir.Val.{to_z, of_z}
use Rattle.points.proofs.Signed.{reads}
use Rattle.trellis.specs.Pick.{near, gap_of}
use Rattle.distance.specs.declared.Spot.{Spot}
use Rattle.distance.specs.declared.Found.{Found}
use Rattle.distance.specs.Found.{found_by}
use Rattle.distance.specs.Distance.{SpotInRange}
use mathlib.Core.Bool.{true}
use Rattle.maps.specs.SquareMap.{is_width, low_bits}
use Rattle.maps.proofs.SquareLaws.{low_below, half-below}
use Rattle.square_search.specs.declared.Stop.{Stop}
use Rattle.square_search.specs.declared.Stops.{Stops}
use Rattle.distance.specs.declared.Candidate.{Candidate}
use Rattle.square_search.specs.Found.{square_distance}
use Rattle.square_search.specs.Axis.{origin_of, stop_of, stops_of, SmallStop, joined_of}
use Rattle.square_search.proofs.Signed.{origin-in}
use Rattle.square_search.proofs.Laws.{stop_on, stop-small, candidate-is}
use Rattle.square_search.proofs.search.Goals as goal

-- the place of the labels with the bit e
abbrev bit_stop : ℕ → Stops → Stop
bit_stop zero s = s.zero
bit_stop (suc e) s = s.one

stops_at : (m e : ℕ) (r : ℤ) → e < 2 → bit_stop e (stops_of m r) ≡ stop_on m r e
unfolding stops_of
stops_at m zero r h = ap (stop_of m 0) (let z : origin_of r ≡ origin_of r - 256 * 0 = omega arith in z)
stops_at m (suc zero) r h = ap (stop_of m 1) (let z : origin_of r - 256 ≡ origin_of r - 256 * 1 = omega arith in z)
stops_at m (suc (suc e)) r h = absurd (omega arith)

-- what is found for a label
abbrev found_at : ℕ → Spot → ℕ → Candidate
found_at u h l = record { w = near u (square_distance u) h l; d = gap_of u (square_distance u) h l }

-- for all of them, as rows
rows : (u : ℕ) (h : Spot) (a c b d : Candidate) → a ≡ found_at u h 0 → c ≡ found_at u h 1 → b ≡ found_at u h 2 → d ≡ found_at u h 3 →
    ◌≡◌ {A = Found} (record { w = a.w ∷ c.w ∷ b.w ∷ d.w ∷ []; d = a.d ∷ c.d ∷ b.d ∷ d.d ∷ [] }) (found_by u (square_distance u) h)
unfolding found_by
rows u h a c b d i j k l = rw (i, j, k, l)

-- a coordinate that was passed on
module _ (m : ℕ) (r : ℤ) (a : m < 5) (h : nat_abs r ≤ 8192) where
  passed : (m < 5) × (nat_abs (to_z w32 (of_z w32 r)) ≤ 8192)
  passed = (a, subst (λ (z : ℤ). nat_abs z ≤ 8192) (sym (reads w32 r (omega arith))) h)

  module _ (s : Stops) (i : s ≡ stops_of m (to_z w32 (of_z w32 r))) (e : ℕ) (b : e < 2) where
    stop_is : bit_stop e s ≡ stop_on m r e
    stop_is = ap (bit_stop e) (i ∙ ap (stops_of m) (reads w32 r (omega arith))) ∙ stops_at m e r b

    small : SmallStop (bit_stop e s)
    small = subst SmallStop (sym stop_is) (stop-small m e (origin_of r - 256 * e) a b (omega (arith, (origin-in r h).1)))

-- for each label what `joined` asks, and what it gives
module _ (u : ℕ) (h : Spot) (ok : is_width u ≡ true) (r : SpotInRange h) (xs ys : Stops) (x-is : xs ≡ stops_of (u / 2) (to_z w32 (of_z w32 h.x))) (y-is : ys ≡ stops_of (u / 2) (to_z w32 (of_z w32 h.y))) (l : ℕ) where
  x-bit : low_bits l / 2 < 2
  x-bit = omega (arith, low_below l)

  y-bit : low_bits l % 2 < 2
  y-bit = omega arith

  asked : SmallStop (bit_stop (low_bits l / 2) xs) × SmallStop (bit_stop (low_bits l % 2) ys)
  asked =
      let a = small (u / 2) h.x (half-below u ok) r.x-in xs x-is (low_bits l / 2) x-bit in
      let b = small (u / 2) h.y (half-below u ok) r.y-in ys y-is (low_bits l % 2) y-bit in
      (a, b)

  given : (c : Candidate) → c ≡ joined_of (bit_stop (low_bits l / 2) xs) (bit_stop (low_bits l % 2) ys) → c ≡ found_at u h l
  given c e =
      let a = stop_is (u / 2) h.x (half-below u ok) r.x-in xs x-is (low_bits l / 2) x-bit in
      let b = stop_is (u / 2) h.y (half-below u ok) r.y-in ys y-is (low_bits l % 2) y-bit in
      e ∙ ap₂ joined_of a b ∙ candidate-is u ok h r l

pub joined-requires : goal.joined-requires
joined-requires c = asked c.args.u c.args.h c.requires.0 c.requires.1 c.both_stops-xs.result c.both_stops-ys.result c.both_stops-xs.ensures c.both_stops-ys.ensures 0

pub joined-requires-2 : goal.joined-requires-2
joined-requires-2 c = asked c.args.u c.args.h c.requires.0 c.requires.1 c.both_stops-xs.result c.both_stops-ys.result c.both_stops-xs.ensures c.both_stops-ys.ensures 1

pub joined-requires-3 : goal.joined-requires-3
joined-requires-3 c = asked c.args.u c.args.h c.requires.0 c.requires.1 c.both_stops-xs.result c.both_stops-ys.result c.both_stops-xs.ensures c.both_stops-ys.ensures 2

pub joined-requires-4 : goal.joined-requires-4
joined-requires-4 c = asked c.args.u c.args.h c.requires.0 c.requires.1 c.both_stops-xs.result c.both_stops-ys.result c.both_stops-xs.ensures c.both_stops-ys.ensures 3

pub returns : goal.returns
returns c =
    let g = given c.args.u c.args.h c.requires.0 c.requires.1 c.both_stops-xs.result c.both_stops-ys.result c.both_stops-xs.ensures c.both_stops-ys.ensures in
    c.of.ensures
    ∙ rows c.args.u c.args.h c.joined.result c.joined-2.result c.joined-3.result c.joined-4.result
    (g 0 c.joined.result c.joined.ensures)
    (g 1 c.joined-2.result c.joined-2.ensures)
    (g 2 c.joined-3.result c.joined-3.ensures)
    (g 3 c.joined-4.result c.joined-4.ensures)
