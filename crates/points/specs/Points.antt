-- The A points, from 01, "Words, labels, points": all (x, y) with both coordinates 1 modulo 4, in order of x² + y², equal sums in
-- order of falling y, and the table of the first 256. That the table meets the rule is proved in proofs/Rule, and that the rule
-- has one answer in proofs/Unique.
--   mod4 z        z modulo 4, from 0 to 3
--   IsA p         p is an A point
--   norm p        x² + y²
--   Before p q    p stands before q in the order of the A points
--   Rule f n      f 0, f 1, up to f (n - 1) are the first n A points: none is out of order and none is skipped
--   coordinates   the table: x and y of each point in turn
--   a_point w      the point number w of the table
use Rattle.std.specs.Prelude.{ℕ, ◌+◌, ◌-◌, ◌*◌, ◌%◌, ◌<◌, ◌≡◌, ◌⊎◌, List, [], ◌∷◌, ℤ, pos, negsuc, neg_ℤ, nat_abs, ◌<ℤ◌, get_or}
use Rattle.points.specs.declared.Point.{Point}

abbrev pub mod4 : ℤ → ℕ
mod4 (pos n) = n % 4
mod4 (negsuc n) = 3 - n % 4

-- "both coordinates 1 modulo 4"
pub record IsA (p : Point) : Type 0 where
  pub x-is : mod4 p.x ≡ 1
  pub y-is : mod4 p.y ≡ 1

abbrev pub norm : Point → ℕ
norm p = nat_abs p.x * nat_abs p.x + nat_abs p.y * nat_abs p.y

-- "in order of x² + y², equal sums in order of falling y"
abbrev pub Before : Point → Point → Type 0
Before p q = (norm p < norm q) ⊎ ((norm p ≡ norm q) × (q.y <ℤ p.y))

-- "each entry is an A point, the order holds, and no A point is skipped"
pub record Rule (f : ℕ → Point) (n : ℕ) : Type 0 where
  pub each : (k : ℕ) → k < n → IsA (f k)
  pub order : (i j : ℕ) → i < j → j < n → Before (f i) (f j)
  pub full : (p : Point) → IsA p → (k : ℕ) → k < n → Before p (f k) → (i : ℕ) × (i < k) × (f i ≡ p)

abbrev neg : ℕ → ℤ
neg n = neg_ℤ (pos n)

unfoldable pub coordinates : List ℤ
coordinates =
    pos 1 ∷ pos 1 ∷ neg 3 ∷ pos 1 ∷ pos 1 ∷ neg 3 ∷ neg 3 ∷ neg 3 ∷ pos 1 ∷ pos 5 ∷ pos 5 ∷ pos 1 ∷ neg 3 ∷ pos 5 ∷ pos 5 ∷ neg 3 ∷
    pos 5 ∷ pos 5 ∷ neg 7 ∷ pos 1 ∷ pos 1 ∷ neg 7 ∷ neg 7 ∷ neg 3 ∷ neg 3 ∷ neg 7 ∷ neg 7 ∷ pos 5 ∷ pos 5 ∷ neg 7 ∷ pos 1 ∷ pos 9 ∷
    pos 9 ∷ pos 1 ∷ neg 3 ∷ pos 9 ∷ pos 9 ∷ neg 3 ∷ neg 7 ∷ neg 7 ∷ pos 5 ∷ pos 9 ∷ pos 9 ∷ pos 5 ∷ neg 11 ∷ pos 1 ∷ pos 1 ∷ neg 11 ∷
    neg 7 ∷ pos 9 ∷ neg 11 ∷ neg 3 ∷ pos 9 ∷ neg 7 ∷ neg 3 ∷ neg 11 ∷ neg 11 ∷ pos 5 ∷ pos 5 ∷ neg 11 ∷ pos 9 ∷ pos 9 ∷ pos 1 ∷ pos 13 ∷
    pos 13 ∷ pos 1 ∷ neg 11 ∷ neg 7 ∷ neg 7 ∷ neg 11 ∷ neg 3 ∷ pos 13 ∷ pos 13 ∷ neg 3 ∷ pos 5 ∷ pos 13 ∷ pos 13 ∷ pos 5 ∷ neg 11 ∷ pos 9 ∷
    pos 9 ∷ neg 11 ∷ neg 7 ∷ pos 13 ∷ pos 13 ∷ neg 7 ∷ neg 15 ∷ pos 1 ∷ pos 1 ∷ neg 15 ∷ neg 15 ∷ neg 3 ∷ neg 3 ∷ neg 15 ∷ neg 11 ∷ neg 11 ∷
    pos 9 ∷ pos 13 ∷ pos 13 ∷ pos 9 ∷ neg 15 ∷ pos 5 ∷ pos 5 ∷ neg 15 ∷ neg 15 ∷ neg 7 ∷ neg 7 ∷ neg 15 ∷ pos 1 ∷ pos 17 ∷ neg 11 ∷ pos 13 ∷
    pos 17 ∷ pos 1 ∷ pos 13 ∷ neg 11 ∷ neg 3 ∷ pos 17 ∷ pos 17 ∷ neg 3 ∷ neg 15 ∷ pos 9 ∷ pos 9 ∷ neg 15 ∷ pos 5 ∷ pos 17 ∷ pos 17 ∷ pos 5 ∷
    neg 7 ∷ pos 17 ∷ pos 13 ∷ pos 13 ∷ pos 17 ∷ neg 7 ∷ neg 15 ∷ neg 11 ∷ neg 11 ∷ neg 15 ∷ neg 19 ∷ pos 1 ∷ pos 1 ∷ neg 19 ∷ pos 9 ∷ pos 17 ∷
    pos 17 ∷ pos 9 ∷ neg 19 ∷ neg 3 ∷ neg 3 ∷ neg 19 ∷ neg 19 ∷ pos 5 ∷ pos 5 ∷ neg 19 ∷ neg 15 ∷ pos 13 ∷ pos 13 ∷ neg 15 ∷ neg 11 ∷ pos 17 ∷
    neg 19 ∷ neg 7 ∷ pos 17 ∷ neg 11 ∷ neg 7 ∷ neg 19 ∷ pos 1 ∷ pos 21 ∷ neg 19 ∷ pos 9 ∷ pos 21 ∷ pos 1 ∷ pos 9 ∷ neg 19 ∷ neg 3 ∷ pos 21 ∷
    pos 21 ∷ neg 3 ∷ neg 15 ∷ neg 15 ∷ pos 13 ∷ pos 17 ∷ pos 17 ∷ pos 13 ∷ pos 5 ∷ pos 21 ∷ pos 21 ∷ pos 5 ∷ neg 19 ∷ neg 11 ∷ neg 11 ∷ neg 19 ∷
    neg 7 ∷ pos 21 ∷ pos 21 ∷ neg 7 ∷ neg 15 ∷ pos 17 ∷ pos 17 ∷ neg 15 ∷ pos 9 ∷ pos 21 ∷ pos 21 ∷ pos 9 ∷ neg 19 ∷ pos 13 ∷ neg 23 ∷ pos 1 ∷
    pos 13 ∷ neg 19 ∷ pos 1 ∷ neg 23 ∷ neg 23 ∷ neg 3 ∷ neg 3 ∷ neg 23 ∷ neg 23 ∷ pos 5 ∷ pos 5 ∷ neg 23 ∷ neg 11 ∷ pos 21 ∷ pos 21 ∷ neg 11 ∷
    pos 17 ∷ pos 17 ∷ neg 23 ∷ neg 7 ∷ neg 7 ∷ neg 23 ∷ neg 19 ∷ neg 15 ∷ neg 15 ∷ neg 19 ∷ pos 13 ∷ pos 21 ∷ pos 21 ∷ pos 13 ∷ neg 23 ∷ pos 9 ∷
    pos 9 ∷ neg 23 ∷ pos 1 ∷ pos 25 ∷ pos 25 ∷ pos 1 ∷ neg 3 ∷ pos 25 ∷ pos 25 ∷ neg 3 ∷ pos 5 ∷ pos 25 ∷ neg 19 ∷ pos 17 ∷ pos 25 ∷ pos 5 ∷
    neg 23 ∷ neg 11 ∷ pos 17 ∷ neg 19 ∷ neg 11 ∷ neg 23 ∷ neg 15 ∷ pos 21 ∷ pos 21 ∷ neg 15 ∷ neg 7 ∷ pos 25 ∷ pos 25 ∷ neg 7 ∷ neg 23 ∷ pos 13 ∷
    pos 13 ∷ neg 23 ∷ pos 9 ∷ pos 25 ∷ pos 25 ∷ pos 9 ∷ neg 19 ∷ neg 19 ∷ pos 17 ∷ pos 21 ∷ pos 21 ∷ pos 17 ∷ neg 27 ∷ pos 1 ∷ pos 1 ∷ neg 27 ∷
    neg 27 ∷ neg 3 ∷ neg 3 ∷ neg 27 ∷ neg 11 ∷ pos 25 ∷ pos 25 ∷ neg 11 ∷ neg 27 ∷ pos 5 ∷ neg 23 ∷ neg 15 ∷ neg 15 ∷ neg 23 ∷ pos 5 ∷ neg 27 ∷
    neg 27 ∷ neg 7 ∷ neg 7 ∷ neg 27 ∷ pos 13 ∷ pos 25 ∷ pos 25 ∷ pos 13 ∷ neg 19 ∷ pos 21 ∷ pos 21 ∷ neg 19 ∷ neg 27 ∷ pos 9 ∷ pos 9 ∷ neg 27 ∷
    neg 23 ∷ pos 17 ∷ pos 17 ∷ neg 23 ∷ pos 1 ∷ pos 29 ∷ pos 29 ∷ pos 1 ∷ neg 3 ∷ pos 29 ∷ neg 15 ∷ pos 25 ∷ pos 29 ∷ neg 3 ∷ neg 27 ∷ neg 11 ∷
    pos 25 ∷ neg 15 ∷ neg 11 ∷ neg 27 ∷ pos 5 ∷ pos 29 ∷ pos 29 ∷ pos 5 ∷ pos 21 ∷ pos 21 ∷ neg 7 ∷ pos 29 ∷ pos 29 ∷ neg 7 ∷ neg 23 ∷ neg 19 ∷
    neg 19 ∷ neg 23 ∷ neg 27 ∷ pos 13 ∷ pos 13 ∷ neg 27 ∷ pos 17 ∷ pos 25 ∷ pos 25 ∷ pos 17 ∷ pos 9 ∷ pos 29 ∷ pos 29 ∷ pos 9 ∷ neg 27 ∷ neg 15 ∷
    neg 15 ∷ neg 27 ∷ neg 11 ∷ pos 29 ∷ neg 31 ∷ pos 1 ∷ pos 29 ∷ neg 11 ∷ pos 1 ∷ neg 31 ∷ neg 23 ∷ pos 21 ∷ neg 31 ∷ neg 3 ∷ pos 21 ∷ neg 23 ∷
    neg 3 ∷ neg 31 ∷ neg 19 ∷ pos 25 ∷ neg 31 ∷ pos 5 ∷ pos 25 ∷ neg 19 ∷ pos 5 ∷ neg 31 ∷ pos 13 ∷ pos 29 ∷ pos 29 ∷ pos 13 ∷ neg 31 ∷ neg 7 ∷
    neg 7 ∷ neg 31 ∷ neg 27 ∷ pos 17 ∷ pos 17 ∷ neg 27 ∷ neg 31 ∷ pos 9 ∷ pos 9 ∷ neg 31 ∷ neg 23 ∷ neg 23 ∷ neg 15 ∷ pos 29 ∷ pos 21 ∷ pos 25 ∷
    pos 25 ∷ pos 21 ∷ pos 29 ∷ neg 15 ∷ neg 31 ∷ neg 11 ∷ neg 11 ∷ neg 31 ∷ pos 1 ∷ pos 33 ∷ pos 33 ∷ pos 1 ∷ neg 27 ∷ neg 19 ∷ neg 19 ∷ neg 27 ∷
    neg 3 ∷ pos 33 ∷ pos 33 ∷ neg 3 ∷ pos 5 ∷ pos 33 ∷ pos 33 ∷ pos 5 ∷ pos 17 ∷ pos 29 ∷ pos 29 ∷ pos 17 ∷ neg 31 ∷ pos 13 ∷ pos 13 ∷ neg 31 ∷
    neg 7 ∷ pos 33 ∷ pos 33 ∷ neg 7 ∷ neg 23 ∷ pos 25 ∷ pos 25 ∷ neg 23 ∷ pos 9 ∷ pos 33 ∷ neg 27 ∷ pos 21 ∷ pos 33 ∷ pos 9 ∷ pos 21 ∷ neg 27 ∷
    neg 31 ∷ neg 15 ∷ neg 15 ∷ neg 31 ∷ neg 19 ∷ pos 29 ∷ pos 29 ∷ neg 19 ∷ neg 11 ∷ pos 33 ∷ pos 33 ∷ neg 11 ∷ neg 35 ∷ pos 1 ∷ pos 1 ∷ neg 35 ∷
    neg 35 ∷ neg 3 ∷ neg 3 ∷ neg 35 ∷ pos 25 ∷ pos 25 ∷ neg 31 ∷ pos 17 ∷ neg 35 ∷ pos 5 ∷ pos 17 ∷ neg 31 ∷ pos 5 ∷ neg 35 ∷ pos 13 ∷ pos 33 ∷
    pos 33 ∷ pos 13 ∷ neg 27 ∷ neg 23 ∷ neg 23 ∷ neg 27 ∷ neg 35 ∷ neg 7 ∷ neg 7 ∷ neg 35 ∷ pos 21 ∷ pos 29 ∷ pos 29 ∷ pos 21 ∷ neg 35 ∷ pos 9 ∷ []

unfoldable pub a_point : ℕ → Point
a_point w = record { x = get_or coordinates (w * 2) (pos 0); y = get_or coordinates (w * 2 + 1) (pos 0) }
