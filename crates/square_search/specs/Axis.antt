-- The search on one axis. A label's points stand 512 apart on each axis. The coordinate 4t + 2e - 67 is the place t, where e is the axis's
-- bit of the label, so that place 17 has the field 0 and place 16 the field of ones; a received coordinate r lies r + 8576 - 256e
-- from the place 0. That the place is the nearest, and of equals that with the smaller field, is proved in proofs/Axis.
--   origin_of r         how far r lies from the place 0 of a label whose bit is 0
--   between_of a b      how far a and b are from each other
--   rounded_of g        the nearest place to what lies g from the place 0: halves go down, but from 16 to 17 up
--   clamped_of q lo hi  the nearest to q of lo to hi
--   lowest m e         the lowest of the 2^m places of a label
--   nearest_place m e g   the nearest of them
--   field_at m t        the bits of the place t in the number
--   far g t, far_squared g t   how far the place t is from what lies g from the place 0, and its square
--   stop_of m e g       the nearest place's bits, two places apart, and its squared distance
--   stops_of m r        the same for the received coordinate r, of labels with the bit 0 and with the bit 1
--   SmallStop x        the bits are of a number below 256, and two such distances add up to less than 2^32
--   joined_of x y       number and distance of the point with these two
use Rattle.std.specs.Prelude.{ℕ, ◌+◌, ◌-◌, ◌*◌, ◌/◌, ◌%◌, ◌^◌, ◌≤◌, ◌<◌, cond, ltb, eqb, ℤ, pos, nat_abs, ◌+ℤ◌}
use Rattle.maps.specs.SquareBits.{spread}
use Rattle.square_search.specs.declared.Stop.{Stop}
use Rattle.square_search.specs.declared.Stops.{Stops}
use Rattle.distance.specs.declared.Candidate.{Candidate}

unfoldable pub origin_of : ℤ → ℕ
origin_of r = nat_abs (r +ℤ pos 8576)

abbrev pub between_of : ℕ → ℕ → ℕ
between_of a b = (a - b) + (b - a)

unfoldable pub rounded_of : ℕ → ℕ
rounded_of g = cond (eqb g 8448) 17 ((g + 255) / 512)

unfoldable pub clamped_of : ℕ → ℕ → ℕ → ℕ
clamped_of q lo hi = cond (ltb q lo) lo (cond (ltb hi q) hi q)

abbrev pub lowest : ℕ → ℕ → ℕ
lowest m e = 17 - (2 ^ m + e) / 2

unfoldable pub nearest_place : ℕ → ℕ → ℕ → ℕ
nearest_place m e g = clamped_of (rounded_of g) (lowest m e) (lowest m e + (2 ^ m - 1))

abbrev pub field_at : ℕ → ℕ → ℕ
field_at m t = (t + 15) % 2 ^ m

abbrev pub far : ℕ → ℕ → ℕ
far g t = between_of g (512 * t)

abbrev pub far_squared : ℕ → ℕ → ℕ
far_squared g t = far g t * far g t

unfoldable pub stop_of : ℕ → ℕ → ℕ → Stop
stop_of m e g = let t = nearest_place m e g in record { s = spread (field_at m t); d = far_squared g t }

unfoldable pub stops_of : ℕ → ℤ → Stops
stops_of m r = record { zero = stop_of m 0 (origin_of r); one = stop_of m 1 (origin_of r - 256) }

pub record SmallStop (x : Stop) : Type 0 where
  pub s-small : x.s ≤ 85
  pub d_small : x.d < 2 ^ 31

abbrev pub joined_of : Stop → Stop → Candidate
joined_of x y = record { w = 2 * x.s + y.s; d = x.d + y.d }
