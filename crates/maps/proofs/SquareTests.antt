-- The square map by coordinates, from tests that the checker computes at every width, b = 2, 4, 6, 8 and 10: over all bits v, over
-- all coordinates and over all numbers w. A width is given by m, the half of u, so that v has m + 1 pairs of bits and w has m.
--   x-is, y-is            the point of the bits v has the gathered bits as its coordinates
--   x_below, y-below      which are in range
--   woven_back, bits_back   and give v back
--   x-rest, y-rest        its remainders modulo 4 are those of the label of v
--   x-odd .. y-in         it is on the grid
--   x-turned, y-turned    turned, it is the point of the turned bits
--   above, under          an odd coordinate is made of its bits
--   woven-x, woven-y      what is woven is gathered again
--   spread-below          and is in range
--   turned-below, turned-four   a turn permutes the numbers, and four turns are none
use mathlib.Core.Path.{◌≡◌, ap}
use mathlib.Core.Bool.{Bool, false}
use Prim.Native.Nat.{ℕ, suc, ◌+◌, ◌*◌, ◌/◌, ◌%◌, ◌^◌, ◌<◌}
use lib.Dec.{T, ltb, eqb, eqb→eq, ltb→lt}
use lib.IntN.{ℤ, pos, negsuc, neg_ℤ, nat_abs}
use Rattle.wei.proofs.Finite.{upto, at, equal2}
use Rattle.points.specs.Points.{mod4}
use Rattle.points.specs.Turn.{remainder_x, remainder_y}
use Rattle.maps.specs.SquareMap.{every_second, twos, number_turned}
use Rattle.maps.specs.SquareBits.{gathered, spread, woven, coordinate, field_of, label_of}

-- ---- tests at each width, and at each number below what the width says

abbrev Each : (ℕ → ℕ) → (ℕ → ℕ → Bool) → Type 0
Each n f = T (upto 5 (λ m. upto (n m) (f m)))

module _ (n : ℕ → ℕ) where
  pub each_at : (f : ℕ → ℕ → Bool) → Each n f → (m v : ℕ) → m < 5 → v < n m → T (f m v)
  each_at f t m v g h = at (n m) (f m) (at 5 (λ m. upto (n m) (f m)) t m g) v h

  pub equal : (f g : ℕ → ℕ → ℕ) → Each n (λ m v. eqb (f m v) (g m v)) → (m v : ℕ) → m < 5 → v < n m → f m v ≡ g m v
  equal f g t m v a b = eqb→eq (f m v) (g m v) (each_at (λ m v. eqb (f m v) (g m v)) t m v a b)

  pub less : (f g : ℕ → ℕ → ℕ) → Each n (λ m v. ltb (f m v) (g m v)) → (m v : ℕ) → m < 5 → v < n m → f m v < g m v
  less f g t m v a b = ltb→lt (f m v) (g m v) (each_at (λ m v. ltb (f m v) (g m v)) t m v a b)

unfoldable pub same_z : ℤ → ℤ → Bool
same_z (pos a) (pos b) = eqb a b
same_z (negsuc a) (negsuc b) = eqb a b
same_z (pos a) (negsuc b) = false
same_z (negsuc a) (pos b) = false

same_z-is : (a b : ℤ) → T (same_z a b) → a ≡ b
unfolding same_z
same_z-is (pos a) (pos b) t = ap pos (eqb→eq a b t)
same_z-is (negsuc a) (negsuc b) t = ap negsuc (eqb→eq a b t)
same_z-is (pos a) (negsuc b) t = absurd t
same_z-is (negsuc a) (pos b) t = absurd t

pub equal_z : (n : ℕ → ℕ) (f g : ℕ → ℕ → ℤ) → Each n (λ m v. same_z (f m v) (g m v)) → (m v : ℕ) → m < 5 → v < n m → f m v ≡ g m v
equal_z n f g t m v a b = same_z-is (f m v) (g m v) (each_at n (λ m v. same_z (f m v) (g m v)) t m v a b)

-- ---- over all bits v

abbrev pub x_of : ℕ → ℕ → ℤ
x_of m v = twos (every_second (m + 1) 1 v)

abbrev pub y_of : ℕ → ℕ → ℤ
y_of m v = twos (every_second (m + 1) 0 v)

abbrev bits : ℕ → ℕ
bits m = 4 ^ (m + 1)

pub x-is : (m v : ℕ) → m < 5 → v < 4 ^ (m + 1) → x_of m v ≡ coordinate m (gathered (v / 2))
unfolding same_z coordinate gathered
x-is = equal_z bits x_of (λ m v. coordinate m (gathered (v / 2))) tt

pub y-is : (m v : ℕ) → m < 5 → v < 4 ^ (m + 1) → y_of m v ≡ coordinate m (gathered v)
unfolding same_z coordinate gathered
y-is = equal_z bits y_of (λ m v. coordinate m (gathered v)) tt

pub x_below : (m v : ℕ) → m < 5 → v < 4 ^ (m + 1) → gathered (v / 2) < 2 ^ (m + 1)
unfolding gathered
x_below = less bits (λ m v. gathered (v / 2)) (λ m v. 2 ^ (m + 1)) tt

pub y-below : (m v : ℕ) → m < 5 → v < 4 ^ (m + 1) → gathered v < 2 ^ (m + 1)
unfolding gathered
y-below = less bits (λ m v. gathered v) (λ m v. 2 ^ (m + 1)) tt

pub woven_back : (m v : ℕ) → m < 5 → v < 4 ^ (m + 1) → woven (gathered (v / 2)) (gathered v) ≡ v
unfolding gathered spread
woven_back = equal bits (λ m v. woven (gathered (v / 2)) (gathered v)) (λ m v. v) tt

pub bits_back : (m v : ℕ) → m < 5 → v < 4 ^ (m + 1) → woven (field_of m (x_of m v)) (field_of m (y_of m v)) ≡ v
unfolding field_of spread
bits_back = equal bits (λ m v. woven (field_of m (x_of m v)) (field_of m (y_of m v))) (λ m v. v) tt

pub x-rest : (m v : ℕ) → m < 5 → v < 4 ^ (m + 1) → mod4 (x_of m v) ≡ remainder_x (label_of v)
x-rest = equal bits (λ m v. mod4 (x_of m v)) (λ m v. remainder_x (label_of v)) tt

pub y-rest : (m v : ℕ) → m < 5 → v < 4 ^ (m + 1) → mod4 (y_of m v) ≡ remainder_y (label_of v)
y-rest = equal bits (λ m v. mod4 (y_of m v)) (λ m v. remainder_y (label_of v)) tt

pub x-odd : (m v : ℕ) → m < 5 → v < 4 ^ (m + 1) → nat_abs (x_of m v) % 2 ≡ 1
x-odd = equal bits (λ m v. nat_abs (x_of m v) % 2) (λ m v. 1) tt

pub y-odd : (m v : ℕ) → m < 5 → v < 4 ^ (m + 1) → nat_abs (y_of m v) % 2 ≡ 1
y-odd = equal bits (λ m v. nat_abs (y_of m v) % 2) (λ m v. 1) tt

pub x-in : (m v : ℕ) → m < 5 → v < 4 ^ (m + 1) → nat_abs (x_of m v) < 2 ^ (m + 1)
x-in = less bits (λ m v. nat_abs (x_of m v)) (λ m v. 2 ^ (m + 1)) tt

pub y-in : (m v : ℕ) → m < 5 → v < 4 ^ (m + 1) → nat_abs (y_of m v) < 2 ^ (m + 1)
y-in = less bits (λ m v. nat_abs (y_of m v)) (λ m v. 2 ^ (m + 1)) tt

pub x-turned : (m v : ℕ) → m < 5 → v < 4 ^ (m + 1) → x_of m (number_turned (suc m) v) ≡ y_of m v
unfolding same_z number_turned
x-turned = equal_z bits (λ m v. x_of m (number_turned (suc m) v)) y_of tt

pub y-turned : (m v : ℕ) → m < 5 → v < 4 ^ (m + 1) → y_of m (number_turned (suc m) v) ≡ neg_ℤ (x_of m v)
unfolding same_z number_turned
y-turned = equal_z bits (λ m v. y_of m (number_turned (suc m) v)) (λ m v. neg_ℤ (x_of m v)) tt

-- ---- over all coordinates

-- the n-th odd coordinate above 0 and below 0
pub above : (m n : ℕ) → m < 5 → n < 2 ^ m → coordinate m (field_of m (pos (2 * n + 1))) ≡ pos (2 * n + 1)
unfolding same_z coordinate field_of
above = equal_z (λ m. 2 ^ m) (λ m n. coordinate m (field_of m (pos (2 * n + 1)))) (λ m n. pos (2 * n + 1)) tt

pub under : (m n : ℕ) → m < 5 → n < 2 ^ m → coordinate m (field_of m (negsuc (2 * n))) ≡ negsuc (2 * n)
unfolding same_z coordinate field_of
under = equal_z (λ m. 2 ^ m) (λ m n. coordinate m (field_of m (negsuc (2 * n)))) (λ m n. negsuc (2 * n)) tt

-- what is woven of the coordinates' bits is gathered again
pub woven-x : (i j : ℕ) → i < 32 → j < 32 → gathered (woven i j / 2) ≡ i
unfolding gathered spread
woven-x = equal2 32 32 (λ i j. gathered (woven i j / 2)) (λ i j. i) tt

pub woven-y : (i j : ℕ) → i < 32 → j < 32 → gathered (woven i j) ≡ j
unfolding gathered spread
woven-y = equal2 32 32 (λ i j. gathered (woven i j)) (λ i j. j) tt

pub spread-below : (m k : ℕ) → m < 5 → k < 2 ^ (m + 1) → 3 * spread k < 4 ^ (m + 1)
unfolding spread
spread-below = less (λ m. 2 ^ (m + 1)) (λ m k. 3 * spread k) (λ m k. 4 ^ (m + 1)) tt

-- ---- over all numbers w

pub turned-below : (m w : ℕ) → m < 5 → w < 4 ^ m → number_turned m w < 4 ^ m
unfolding number_turned
turned-below = less (λ m. 4 ^ m) number_turned (λ m w. 4 ^ m) tt

pub turned-four : (m w : ℕ) → m < 5 → w < 4 ^ m → number_turned m (number_turned m (number_turned m (number_turned m w))) ≡ w
unfolding number_turned
turned-four = equal (λ m. 4 ^ m) (λ m w. number_turned m (number_turned m (number_turned m (number_turned m w)))) (λ m w. w) tt
