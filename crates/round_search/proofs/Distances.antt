-- The squared distance of a received point from a point: how large it is, and that turning the
-- received point back does what turning the point does.
--   distance-below   the distance of a received point in range from a point of the table
--   back             the distance from a turned point is that of the received point turned back
--   back-in-range    a received point turned back is in range
--   key_fits         a distance plus a number of the table
use mathlib.Core.Path.{◌≡◌, refl, sym, ap, ◌∙◌}
use Prim.Native.Nat.{ℕ, zero, suc, ◌+◌, ◌*◌, ◌^◌, ◌<◌}
use native.Mathlib.Omega.{arith}
use lib.IntN.{ℤ, pos, negsuc, neg_ℤ, nat_abs, ◌+ℤ◌, ◌*ℤ◌, neg_ℤ-neg_ℤ, neg_ℤ-+ℤ}
use mir.Syntax.{w32}
use mir.Val.{Fits}
use Rattle.points.specs.declared.Point.{Point}
use Rattle.points.specs.Turn.{turned, Small}
use Rattle.points.proofs.Signed.{nat_abs-neg}
use Rattle.distance.specs.declared.Spot.{Spot}
use Rattle.distance.specs.Distance.{SpotInRange, difference, distance}
use Rattle.round_search.specs.Key.{turned_back}
use Rattle.round_search.proofs.Ints.{square_le}

pub distance-below : (h : Spot) (p : Point) → SpotInRange h → Small p → distance h p < 2 ^ 29
unfolding distance
distance-below h p a b = omega (arith, square_le h.x p.x a.x-in b.x-small, square_le h.y p.y a.y-in b.y-small)

pub back-in-range : (h : Spot) → SpotInRange h → SpotInRange (turned_back h)
unfolding turned_back
back-in-range h a = record { x-in = omega (arith, nat_abs-neg h.y, a.y-in); y-in = a.x-in }

-- 128 (-c) is -(128 c)
scaled-neg : (c : ℤ) → pos 128 *ℤ neg_ℤ c ≡ neg_ℤ (pos 128 *ℤ c)
scaled-neg (pos zero) = refl
scaled-neg (pos (suc n)) = refl
scaled-neg (negsuc n) = sym (neg_ℤ-neg_ℤ (pos (128 * suc n)))

-- -r - 128 c and r + 128 c differ in their sign alone
negated : (r c : ℤ) → nat_abs (difference (neg_ℤ r) c) ≡ nat_abs (difference r (neg_ℤ c))
negated r c =
    ap nat_abs (sym (neg_ℤ-+ℤ r (pos 128 *ℤ c)))
    ∙ nat_abs-neg (r +ℤ pos 128 *ℤ c)
    ∙ ap (λ (z : ℤ). nat_abs (r +ℤ z)) (sym (neg_ℤ-neg_ℤ (pos 128 *ℤ c)) ∙ ap neg_ℤ (sym (scaled-neg c)))

pub back : (h : Spot) (p : Point) → distance h (turned p) ≡ distance (turned_back h) p
unfolding distance turned_back
back h p = omega (arith, ap (λ (n : ℕ). n * n) (negated h.y p.x))

-- a distance and a number below 256 fit 32 bits
pub key_fits : (h : Spot) (p : Point) (d w : ℕ) → SpotInRange h → Small p → d ≡ distance h p → w < 256 → Fits w32 (d + w)
key_fits h p d w a b e g = record { fits = omega (arith, distance-below h p a b) }
