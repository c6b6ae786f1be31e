-- How far a spot on the line is from a point, from 01, "What the receiver hears".
--   SpotInRange s    both coordinates of the spot s are received coordinates
--   on_line c         where the point coordinate c stands
--   difference r c   the signed difference of r from the point coordinate c
--   square z         the square of a signed number
--   distance s p     the squared distance of the spot s from the point p
use Rattle.std.specs.Prelude.{ℕ, ◌+◌, ◌*◌, ◌≤◌, ℤ, pos, nat_abs, ◌-ℤ◌, ◌*ℤ◌}
use Rattle.points.specs.declared.Point.{Point}
use Rattle.distance.specs.declared.Spot.{Spot}

-- "A received coordinate is a whole number from -8192 to 8192, both included"
pub record SpotInRange (s : Spot) : Type 0 where
  pub x-in : nat_abs s.x ≤ 8192
  pub y-in : nat_abs s.y ≤ 8192

-- "Point coordinate c stands at 128·c"
abbrev pub on_line : ℤ → ℤ
on_line c = pos 128 *ℤ c

abbrev pub difference : ℤ → ℤ → ℤ
difference r c = r -ℤ on_line c

abbrev pub square : ℤ → ℕ
square z = nat_abs z * nat_abs z

unfoldable pub distance : Spot → Point → ℕ
distance s p = square (difference s.x p.x) + square (difference s.y p.y)
