-- `both_stops`: the two searches on an axis; a received coordinate lies far enough from the place 0 for both.
use mathlib.Core.Path.{◌≡◌, ap, ap₂, ◌∙◌}
use Prim.Native.Nat.{ℕ, ◌-◌, ◌≤◌}
use native.Mathlib.Omega.{arith}
use lib.IntN.{ℤ, nat_abs}
use mir.Syntax.{w32}
use mir.Val.{to_z, of_z}
use Rattle.points.proofs.Signed.{reads}
use Rattle.square_search.specs.declared.Stop.{Stop}
use Rattle.square_search.specs.declared.Stops.{Stops}
use Rattle.square_search.specs.Axis.{origin_of, stop_of, stops_of}
use Rattle.square_search.proofs.Signed.{origin-in}
use Rattle.square_search.proofs.both_stops.Goals as goal

module _ (r : ℤ) (h : nat_abs r ≤ 8192) (g : ℕ) (o : g ≡ origin_of (to_z w32 (of_z w32 r))) where
  origin-is : g ≡ origin_of r
  origin-is = o ∙ ap origin_of (reads w32 r (omega arith))

  low : 256 ≤ g
  low = omega (arith, origin-is, (origin-in r h).0)

  high : g ≤ 16768
  high = omega (arith, origin-is, (origin-in r h).1)

  made : (m : ℕ) (a b : Stop) → a ≡ stop_of m 0 g → b ≡ stop_of m 1 (g - 256) → record { zero = a; one = b } ≡ stops_of m r
  unfolding stops_of
  made m a b e f =
      ap₂ {C = Stops} (λ (a b : Stop). record { zero = a; one = b }) (e ∙ ap (stop_of m 0) origin-is) (f ∙ ap (λ (g : ℕ). stop_of m 1 (g - 256)) origin-is)

pub nearest_stop-requires : goal.nearest_stop-requires
nearest_stop-requires c = (c.requires.0, omega arith, high c.args.r c.requires.1 c.origin-g.result c.origin-g.ensures)

pub overflow_sub-g : goal.overflow_sub-g
overflow_sub-g c = low c.args.r c.requires.1 c.origin-g.result c.origin-g.ensures

pub nearest_stop-requires-2 : goal.nearest_stop-requires-2
nearest_stop-requires-2 c = (c.requires.0, omega arith, omega (arith, high c.args.r c.requires.1 c.origin-g.result c.origin-g.ensures))

pub returns : goal.returns
returns c =
    made c.args.r c.requires.1 c.origin-g.result c.origin-g.ensures c.args.m _ _ c.nearest_stop.ensures c.nearest_stop-2.ensures
