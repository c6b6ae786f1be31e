-- Point maps: from a width, a label and a number to a point. The round map of 01 and the square map of 02, Wish 11, are the two. At every
-- width that a map has, each label has 2^u points, one for each number below 2^u. That both are such maps is proved in proofs/Both.
--   PointMap       the widths of a map, how many points a label has, which, and what becomes of a number under a quarter turn
--   IsPointMap M   the laws of a map: what the rest of the project leans on, whichever map it is
--   count_at u      how many points each label has, on either map
--   point_on, number_on   points and turned numbers of each map
--   map_of          the map of each name
--   point_at k l w  the point with label l and number w on a line of the accord k
--   first_at, second_at   the two points of a symbol there
use Rattle.std.specs.Prelude.{ℕ, ◌+◌, ◌/◌, ◌%◌, ◌^◌, ◌≤◌, ◌<◌, ◌≡◌, Bool, true}
use Rattle.wei.specs.Symbol.{Symbol, first_label, last_label}
use Rattle.points.specs.declared.Map.{Map}
use Rattle.points.specs.declared.Map.TheVariants.{Round, Square}
use Rattle.points.specs.declared.Accord.{Accord}
use Rattle.points.specs.declared.Point.{Point}
use Rattle.points.specs.Agreed.{has_width}
use Rattle.points.specs.Turn.{turned, point_of, Labelled, Small}
use Rattle.maps.specs.SquareMap as square

pub record PointMap : Type 0 where
  pub widths : ℕ → Bool
  -- of a width: how many points each label has
  pub count : ℕ → ℕ
  -- of a width, a label and a number
  pub point : ℕ → ℕ → ℕ → Point
  -- of a width and a number: the number of the turned point
  pub number_turned : ℕ → ℕ → ℕ

pub record IsPointMap (M : PointMap) : Type 0 where
  pub width-le : (u : ℕ) → M.widths u ≡ true → u ≤ 8
  pub count-is : (u : ℕ) → M.widths u ≡ true → M.count u ≡ 2 ^ u
  -- the remainders modulo 4 of each label
  pub labelled : (u l w : ℕ) → M.widths u ≡ true → l < 4 → w < M.count u → Labelled l (M.point u l w)
  -- no coordinate exceeds 39 in absolute value, whatever number is taken for a label
  pub small : (u l w : ℕ) → M.widths u ≡ true → w < M.count u → Small (M.point u l w)
  -- different labels or numbers give different points
  pub apart : (u l k w v : ℕ) → M.widths u ≡ true → l < 4 → k < 4 → w < M.count u → v < M.count u →
      M.point u l w ≡ M.point u k v → (l ≡ k) × (w ≡ v)
  -- a quarter turn adds 1 to the label modulo 4, and four turns are none
  pub turn : (u l w : ℕ) → M.widths u ≡ true → l < 4 → w < M.count u →
      turned (M.point u l w) ≡ M.point u ((l + 1) % 4) (M.number_turned u w)
  pub turn_below : (u w : ℕ) → M.widths u ≡ true → w < M.count u → M.number_turned u w < M.count u
  pub turn-four : (u w : ℕ) → M.widths u ≡ true → w < M.count u →
      M.number_turned u (M.number_turned u (M.number_turned u (M.number_turned u w))) ≡ w

-- 01: "Width u uses w below 2^u, so each label has 2^u points"; 02, Wish 11: "w, of b - 2 bits", "u is b - 2"
abbrev pub count_at : ℕ → ℕ
count_at u = 2 ^ u

abbrev pub point_on : Map → ℕ → ℕ → ℕ → Point
point_on Round u l w = point_of l w
point_on Square u l w = square.square_of u l w

-- 02, Wish 11: "w changes under a turn"; on the round map it stays
abbrev pub number_on : Map → ℕ → ℕ → ℕ
number_on Round u w = w
number_on Square u w = square.number_turned (u / 2) w

abbrev pub map_of : Map → PointMap
map_of n = record { widths = has_width n; count = count_at; point = point_on n; number_turned = number_on n }

abbrev pub point_at : Accord → ℕ → ℕ → Point
point_at k l w = point_on k.map k.u l w

-- 01: "One word makes one symbol: two 2D points"
unfoldable pub first_at : Accord → Symbol → Point
first_at k c = point_at k (first_label c) c.w1

unfoldable pub second_at : Accord → Symbol → Point
second_at k c = point_at k (last_label c) c.w2
