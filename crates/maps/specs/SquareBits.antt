-- The square map by coordinates: bits of x and of y, gathered from v and spread back. That this is the map is proved in proofs/SquareTests.
--   gathered v        the bits v0, v2, v4, v6 and v8, moved together
--   spread k          the five bits of k, moved two places apart
--   woven i j         the bits v with those of i as x and those of j as y
--   coordinate m k    the coordinate with the m + 1 bits k and a 1 behind them
--   field_of m z       the m + 1 bits of the coordinate z, without the 1
--   bits_of m p        the bits v of the point p
--   label_of v         the label of the bits v
use Rattle.std.specs.Prelude.{ℕ, ◌+◌, ◌-◌, ◌*◌, ◌/◌, ◌%◌, ◌^◌, ℤ, pos, negsuc, ◌-ℤ◌}
use Rattle.points.specs.declared.Point.{Point}
use Rattle.maps.specs.SquareMap.{low_bits}

unfoldable pub gathered : ℕ → ℕ
gathered v = v % 2 + 2 * (v / 4 % 2) + 4 * (v / 16 % 2) + 8 * (v / 64 % 2) + 16 * (v / 256 % 2)

unfoldable pub spread : ℕ → ℕ
spread k = k % 2 + 4 * (k / 2 % 2) + 16 * (k / 4 % 2) + 64 * (k / 8 % 2) + 256 * (k / 16 % 2)

abbrev pub woven : ℕ → ℕ → ℕ
woven i j = 2 * spread i + spread j

unfoldable pub coordinate : ℕ → ℕ → ℤ
coordinate m k = pos (2 * k + 1) -ℤ pos (k / 2 ^ m * 2 ^ (m + 2))

unfoldable pub field_of : ℕ → ℤ → ℕ
field_of m (pos n) = n / 2
field_of m (negsuc n) = 2 ^ (m + 1) - 1 - n / 2

abbrev pub bits_of : ℕ → Point → ℕ
bits_of m p = woven (field_of m p.x) (field_of m p.y)

-- a label and its bits are each other's: A 0 and 00, C 1 and 01, B 2 and 11, D 3 and 10
abbrev pub label_of : ℕ → ℕ
label_of v = low_bits (v % 4)
