-- The square map, from 02, Wish 11, and source document 003, 6.9.4.1: the points of b bits v, b even from 2 to 10, their labels and
-- numbers. Width u has b = u + 2. What is proved of it stands in proofs/SquareLaws, and the figure for b = 4 in proofs/SquareFigure.
--   is_width u           the square map has the width u
--   bit v i             the bit v(i)
--   every_second n i v   the bits v(i + 2n - 2), .., v(i + 2), v(i) and a 1 behind them
--   plain, twos         what such bits, highest first, stand for: as they are, and in two's complement
--   grid_point b v       the point of the b bits v
--   low_bits l           the bits v1 v0 of label l, as a number
--   all_bits l w         the bits of label l and number w
--   square_of u l w      the point with label l and number w: the map from labels and numbers to points
--   OnGrid u p          p is a point of the grid of width u
--   number_turned m w    the number of the turned point, for m pairs of bits
use Rattle.std.specs.Prelude.{ℕ, zero, suc, ◌+◌, ◌-◌, ◌*◌, ◌/◌, ◌%◌, ◌^◌, ◌<◌, ◌≡◌, Bool, List, [], ◌∷◌, ℤ, pos, nat_abs, ◌-ℤ◌, length}
use Rattle.points.specs.declared.Map.TheVariants.{Square}
use Rattle.points.specs.declared.Point.{Point}
use Rattle.points.specs.Agreed.{has_width}

-- "b even from 2 to 10"; "u is b - 2"
abbrev pub is_width : ℕ → Bool
is_width u = has_width Square u

abbrev pub bit : ℕ → ℕ → ℕ
bit v i = v / 2 ^ i % 2

abbrev pub every_second : ℕ → ℕ → ℕ → List ℕ
every_second zero i v = 1 ∷ []
every_second (suc n) i v = bit v (i + 2 * n) ∷ every_second n i v

abbrev pub plain : List ℕ → ℕ
plain [] = 0
plain (a ∷ r) = a * 2 ^ length r + plain r

-- the highest bit counts negative
abbrev pub twos : List ℕ → ℤ
twos [] = pos 0
twos (a ∷ r) = pos (plain r) -ℤ pos (a * 2 ^ length r)

-- "x has the two's complement bits v(b-1), v(b-3), .., v1, 1 and y has v(b-2), .., v0, 1"
unfoldable pub grid_point : ℕ → ℕ → Point
grid_point b v = record { x = twos (every_second (b / 2) 1 v); y = twos (every_second (b / 2) 0 v) }

-- "Label A has (v1, v0) = 00, C 01, B 11, D 10"; A is 0, C 1, B 2, D 3
abbrev pub low_bits : ℕ → ℕ
low_bits zero = 0
low_bits (suc zero) = 1
low_bits (suc (suc zero)) = 3
low_bits (suc (suc (suc l))) = 2

-- "and w, of b - 2 bits, is the rest with v2 as its low bit"
abbrev pub all_bits : ℕ → ℕ → ℕ
all_bits l w = 4 * w + low_bits l

unfoldable pub square_of : ℕ → ℕ → ℕ → Point
square_of u l w = grid_point (u + 2) (all_bits l w)

-- the odd numbers that two's complement has with b / 2 + 1 bits, but for the lowest number, which is even
pub record OnGrid (u : ℕ) (p : Point) : Type 0 where
  pub x-odd : nat_abs p.x % 2 ≡ 1
  pub x-in : nat_abs p.x < 2 ^ (u / 2 + 1)
  pub y-odd : nat_abs p.y % 2 ≡ 1
  pub y-in : nat_abs p.y < 2 ^ (u / 2 + 1)

-- a quarter turn takes each pair of bits, one of x and one of y, to that of y and the opposite of that of x
unfoldable pub number_turned : ℕ → ℕ → ℕ
number_turned zero w = 0
number_turned (suc m) w = 4 * number_turned m (w / 4) + 2 * (w % 2) + (1 - w / 2 % 2)
