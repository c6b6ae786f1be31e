-- The bytes of the word that eight numbers make are these numbers.
--   first-number, second-number   a number of the first point, and of the second
use mathlib.Core.Path.{◌≡◌}
use mathlib.Core.List.{List}
use Prim.Native.Nat.{ℕ, zero, suc, ◌+◌, ◌<◌}
use native.Mathlib.Omega.{arith}
use lib.ListN.{get_or}
use Rattle.picks.specs.Picks.{byte_at, numbers_of}

module _ (w1 w2 : List ℕ) (h : (i : ℕ) → get_or w1 i 0 < 256) (k : (i : ℕ) → get_or w2 i 0 < 256) where
  pub first-number : (i : ℕ) → i < 4 → byte_at (numbers_of w1 w2) i ≡ get_or w1 i 0
  unfolding numbers_of
  first-number zero l = omega (arith, h 0)
  first-number (suc zero) l = omega (arith, h 0, h 1)
  first-number (suc (suc zero)) l = omega (arith, h 0, h 1, h 2)
  first-number (suc (suc (suc zero))) l = omega (arith, h 0, h 1, h 2, h 3)
  first-number (suc (suc (suc (suc i)))) l = absurd (omega arith)

  pub second-number : (i : ℕ) → i < 4 → byte_at (numbers_of w1 w2) (4 + i) ≡ get_or w2 i 0
  unfolding numbers_of
  second-number zero l = omega (arith, h 0, h 1, h 2, h 3, k 0)
  second-number (suc zero) l = omega (arith, h 0, h 1, h 2, h 3, k 0, k 1)
  second-number (suc (suc zero)) l = omega (arith, h 0, h 1, h 2, h 3, k 0, k 1, k 2)
  second-number (suc (suc (suc zero))) l = omega (arith, h 0, h 1, h 2, h 3, k 0, k 1, k 2, k 3)
  second-number (suc (suc (suc (suc i)))) l = absurd (omega arith)
