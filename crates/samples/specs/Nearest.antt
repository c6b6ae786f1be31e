-- Rounding as 01 asks for it, "the whole number nearest .. , halves to the even neighbour", of a fraction n / d with d above 0.
-- Definitions only. proofs/Nearest.antt shows that `nearest_even n d` is nearest in the sense of `IsNearest`, and that no other number is.
--   nearest_even n d   the whole number nearest to n / d, at a half the even one of the two
--   round_by o q        q, q + 1 or the even one of them, by how twice the remainder compares with the divisor
--   IsNearest n d r   r is within a half of n / d, and even where it is just a half away
use Rattle.std.specs.Prelude.{◌≡◌}
use Prim.Native.Nat.{ℕ, ◌+◌, ◌*◌, ◌/◌, ◌%◌, ◌≤◌, compare, Ordering}

abbrev pub round_by : Ordering → ℕ → ℕ
round_by Ordering.lt q = q
round_by Ordering.eq q = q + q % 2
round_by Ordering.gt q = q + 1

unfoldable pub nearest_even : ℕ → ℕ → ℕ
nearest_even n d = round_by (compare (n % d * 2) d) (n / d)

-- |2 r d - 2 n| ≤ d, in two halves; and where either is an equation, r is even
pub record IsNearest (n d r : ℕ) : Type 0 where
  pub not-above : r * d * 2 ≤ n * 2 + d
  pub not-below : n * 2 ≤ r * d * 2 + d
  pub even-above : r * d * 2 ≡ n * 2 + d → r % 2 ≡ 0
  pub even-below : n * 2 ≡ r * d * 2 + d → r % 2 ≡ 0
