-- One coordinate, and the one beside it: what is heard at most n from a coordinate is at most 256 + n from the next.
--   reach n            what the squares of the two distances differ by at most
--   coordinate-reach   so much further, for each coordinate that goes on by 2
use Prim.Native.Nat.{ℕ, zero, suc, ◌+◌, ◌*◌, ◌≤◌}
use native.Mathlib.Nat.{add-mul, mul-add, mul-le-mul}
use native.Mathlib.Omega.{arith}
use lib.IntN.{ℤ, nat_abs}
use Rattle.distance.specs.Distance.{difference, square}
use Rattle.round_places.specs.Places.{stand_of}
use Rattle.round_columns.specs.Cells.{count_of, apart_of}
use Rattle.round_columns.proofs.Counts.{away}
use Rattle.promises.proofs.Coordinates.{Placed, near-in-range}

-- what the square is more at most, 2 coordinates further
abbrev pub reach : ℕ → ℕ
reach n = 65536 + 512 * n

next-to : (a s t k : ℕ) → t ≤ s + 2 * k → s ≤ t + 2 * k → apart_of a (128 * t) ≤ apart_of a (128 * s) + 256 * k
next-to a s t k g h = omega arith

apart-up : (s t k : ℕ) → apart_of s t ≤ k → (t ≤ s + k) × (s ≤ t + k)
apart-up s t k h = (omega arith, omega arith)

squares-next : (a b n k : ℕ) → a ≤ n → b ≤ a + 256 * k → k ≤ 1 → b * b ≤ a * a + reach n * k
squares-next a b n zero h g l = omega (arith, mul-le-mul {n₁ = b} {m₁ = b} {n₂ = a} {m₂ = a} (omega arith) (omega arith))
squares-next a b n (suc zero) h g l =
    let z : b ≤ a + 256 = omega arith in
    omega (arith, mul-le-mul z z, add-mul a 256 (a + 256), mul-add a a 256)
squares-next a b n (suc (suc k)) h g l = absurd (omega arith)

module _ (n : ℕ) (k : n ≤ 127) (r c d : ℤ) (h : nat_abs (difference r c) ≤ n) (p : Placed c) (q : Placed d) where
  pub coordinate-reach : (m : ℕ) → m ≤ 1 → apart_of (stand_of c) (stand_of d) ≤ 2 * m → square (difference r d) ≤ square (difference r c) + reach n * m
  coordinate-reach m l e =
      let g = near-in-range r c n h k p in
      let u = apart-up (stand_of c) (stand_of d) (2 * m) e in
      let w = next-to (count_of r) (stand_of c) (stand_of d) m u.0 u.1 in
      squares-next (nat_abs (difference r c)) (nat_abs (difference r d)) n m h (omega (arith, away r c g p.small, away r d g q.small, w)) l
