-- Turns and labels of points, from 01, "Words, labels, points". That the point of a label has that label's remainders, and that
-- different labels or numbers give different points, is proved in proofs/Turns and proofs/Apart.
--   turned p        p after a quarter turn clockwise
--   turns l p       p after l of them
--   point_of l w     the point with label l and number w: the map from labels and numbers to points
--   Labelled l p    p has the remainders modulo 4 of label l
--   Small p         no coordinate exceeds 39 in absolute value
use Rattle.std.specs.Prelude.{ℕ, zero, suc, ◌≤◌, ◌≡◌, neg_ℤ, nat_abs}
use Rattle.points.specs.declared.Point.{Point}
use Rattle.points.specs.Points.{mod4, a_point}

-- "A quarter turn clockwise takes (x, y) to (y, -x)"
abbrev pub turned : Point → Point
turned p = record { x = p.y; y = neg_ℤ p.x }

abbrev pub turns : ℕ → Point → Point
turns zero p = p
turns (suc l) p = turned (turns l p)

-- "The point with label l and number w is A point w turned clockwise l times"
unfoldable pub point_of : ℕ → ℕ → Point
point_of l w = turns l (a_point w)

-- "Modulo 4 the pair (x, y) is (1,1) in A, (1,3) in C, (3,3) in B, (3,1) in D"
abbrev pub remainder_x : ℕ → ℕ
remainder_x zero = 1
remainder_x (suc zero) = 1
remainder_x (suc (suc n)) = 3

abbrev pub remainder_y : ℕ → ℕ
remainder_y zero = 1
remainder_y (suc zero) = 3
remainder_y (suc (suc zero)) = 3
remainder_y (suc (suc (suc n))) = 1

pub record Labelled (l : ℕ) (p : Point) : Type 0 where
  pub x-is : mod4 p.x ≡ remainder_x l
  pub y-is : mod4 p.y ≡ remainder_y l

-- "No table coordinate exceeds 39 in absolute value"
pub record Small (p : Point) : Type 0 where
  pub x-small : nat_abs p.x ≤ 39
  pub y-small : nat_abs p.y ≤ 39
