-- On any line the two points of a symbol fix it, and are small.
--   symbols-apart   valid symbols whose points are equal are equal
--   small_at        no coordinate of a point exceeds 39 in absolute value
use mathlib.Core.Path.{◌≡◌}
use mathlib.Core.Bool.{true}
use Prim.Native.Nat.{ℕ, ◌^◌, ◌<◌}
use native.Mathlib.Omega.{arith}
use Rattle.wei.specs.Symbol.{Symbol, first_label, last_label, Valid}
use Rattle.wei.proofs.Labels.{labels_apart, second_below}
use Rattle.points.specs.declared.Accord.{Accord}
use Rattle.points.specs.Agreed.{is_accord}
use Rattle.points.specs.Turn.{Small}
use Rattle.maps.specs.PointMap.{IsPointMap, map_of, point_at, first_at, second_at}
use Rattle.maps.proofs.Both.{is-map}

module _ (k : Accord) (h : is_accord k ≡ true) where
  abbrev i : IsPointMap (map_of k.map)
  i = is-map k.map

  pub small_at : (l w : ℕ) → w < 2 ^ k.u → Small (point_at k l w)
  small_at l w b = i.small k.u l w h b

  pub symbols-apart : (c d : Symbol) → Valid k.u c → Valid k.u d → first_at k c ≡ first_at k d → second_at k c ≡ second_at k d → c ≡ d
  unfolding first_at second_at last_label
  symbols-apart c d p q e f =
      let a =
      i.apart k.u (first_label c) (first_label d) c.w1 d.w1 h (omega (arith, p.i2-below, p.i3-below)) (omega (arith, q.i2-below, q.i3-below))
      p.w1-below q.w1-below e in
      let b =
      i.apart k.u (last_label c) (last_label d) c.w2 d.w2 h (second_below (first_label c) c.y0 c.i1) (second_below (first_label d) d.y0 d.i1)
      p.w2-below q.w2-below f in
      labels_apart k.u k.u c d p q a.0 b.0 a.1 b.1
