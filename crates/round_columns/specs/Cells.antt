-- The search by places and columns, in counts. Not to be believed: proofs/ ties it to `near_key`.
--   count_of z           a received coordinate, counted from 12160 below zero;  Counted v, v is such a count
--   apart_of a b         how far two numbers are apart;  gap_of v t, how far v is from place t
--   key_of x y w         the key of point w for the counts x and y: distance plus number
--   LeastKey u x y r    r is the least key of the numbers below 2^u
--   side_of v            a count as seen from the middle;  Sided s, what every side meets
--   Seen u x y s        s is what two sides look like along the longer one;  Viewed s, what every such view meets
--   off_of s m e         the squared distance of column m and row e;  cell_key s m e, their key: that and the number there
--   Placed v n r        r is the nearest to v of the places 0 to n, halves to the smaller
--   InColumn s i r      r is the key of the nearest row of the rim's i-th column
--   Rimmed s n r        r is the least key of the rim's first n columns
--   Outside u x y       the longer side reaches the rim's first column
--   Near v              the table has the nearest place of the count v, and of what it is for the other side;  are_near x y, both are
--   place_of v           the nearest place of a count, halves towards the middle;  steps_of v, how many places that is off the middle
--   near_number x y      the number at the nearest place
use Rattle.std.specs.Prelude.{ℕ, ◌+◌, ◌-◌, ◌*◌, ◌/◌, ◌^◌, ◌≤◌, ◌<◌, ◌≡◌, Bool, ◌&&◌, cond, ltb, ℤ, pos, negsuc}
use Rattle.round_places.specs.Places.{Wide, ahead_of, back_of, rise_of, fall_of, number_at, stand_x, stand_y, column_of, top_of, first_of}
use Rattle.round_columns.specs.declared.Side.{Side}
use Rattle.round_columns.specs.declared.View.{View}

abbrev pub count_of : ℤ → ℕ
count_of (pos n) = 12160 + n
count_of (negsuc n) = 12159 - n

pub record Counted (v : ℕ) : Type 0 where
  pub low : 3968 ≤ v
  pub high : v ≤ 20352

abbrev pub apart_of : ℕ → ℕ → ℕ
apart_of a b = (a - b) + (b - a)

abbrev pub gap_of : ℕ → ℕ → ℕ
gap_of v t = apart_of v (512 * t)

-- ---- the points of a width

unfoldable pub key_of : ℕ → ℕ → ℕ → ℕ
key_of x y w = apart_of x (128 * stand_x w) * apart_of x (128 * stand_x w) + apart_of y (128 * stand_y w) * apart_of y (128 * stand_y w) + w

pub record LeastKey (u x y r : ℕ) : Type 0 where
  pub w : ℕ
  pub low : w < 2 ^ u
  pub is : r ≡ key_of x y w
  pub least : (v : ℕ) → v < 2 ^ u → r ≤ key_of x y v

-- ---- as seen from the middle

abbrev pub side_of : ℕ → Side
side_of v = record { back = cond (ltb v 12288) 1 0; far = apart_of v 12288 }

pub record Sided (s : Side) : Type 0 where
  pub back_in : s.back < 2
  pub far-in : s.far ≤ 8320

abbrev pub plain_view : ℕ → Side → Side → View
plain_view u x y =
    record {
      u = u;
      o = 4 * x.back + 2 * y.back;
      ahead = 19 * (1 - x.back);
      back = 19 * x.back;
      rise = 1 - y.back;
      fall = y.back;
      far = x.far;
      short = y.far;
    }

abbrev pub turned_view : ℕ → Side → Side → View
turned_view u x y =
    record {
      u = u;
      o = 4 * x.back + 2 * y.back + 1;
      ahead = 1 - y.back;
      back = y.back;
      rise = 19 * (1 - x.back);
      fall = 19 * x.back;
      far = y.far;
      short = x.far;
    }

pub data Seen (u : ℕ) (x y : Side) (s : View) : Type 0 where
  plain : y.far ≤ x.far → s ≡ plain_view u x y → Seen u x y s
  turned : x.far < y.far → s ≡ turned_view u x y → Seen u x y s

pub record Viewed (s : View) : Type 0 where
  pub u-in : Wide s.u
  pub o-in : s.o < 8
  pub ahead-is : s.ahead ≡ ahead_of s.o
  pub back_is : s.back ≡ back_of s.o
  pub rise-is : s.rise ≡ rise_of s.o
  pub fall-is : s.fall ≡ fall_of s.o
  pub far-in : s.far ≤ 8320
  pub short-in : s.short ≤ s.far

-- ---- columns and rows of a view

unfoldable pub off_of : View → ℕ → ℕ → ℕ
off_of s m e = gap_of s.far m * gap_of s.far m + gap_of s.short e * gap_of s.short e

abbrev pub cell_key : View → ℕ → ℕ → ℕ
cell_key s m e = off_of s m e + number_at s.o m e

pub record Placed (v n r : ℕ) : Type 0 where
  pub below : r ≤ n
  pub down : 512 * r ≤ v + 255
  pub up : r < n → v ≤ 512 * r + 256

pub record InColumn (s : View) (i r : ℕ) : Type 0 where
  pub e : ℕ
  pub row : Placed s.short (top_of s.u s.o i) e
  pub is : r ≡ cell_key s (column_of s.u s.o i) e

pub record Rimmed (s : View) (n r : ℕ) : Type 0 where
  pub i : ℕ
  pub e : ℕ
  pub i-in : i < n
  pub e-in : e ≤ top_of s.u s.o i
  pub is : r ≡ cell_key s (column_of s.u s.o i) e
  pub least : (j k : ℕ) → j < n → k ≤ top_of s.u s.o j → r ≤ cell_key s (column_of s.u s.o j) k

abbrev pub Outside : ℕ → ℕ → ℕ → Type 0
Outside u x y = (s : View) → Seen u (side_of x) (side_of y) s → 512 * first_of s.u s.o ≤ s.far + 255

-- ---- the nearest place

pub record Near (v : ℕ) : Type 0 where
  pub off : apart_of v 12160 < 4737

abbrev pub are_near : ℕ → ℕ → Bool
are_near x y = ltb (apart_of x 12160) 4737 && ltb (apart_of y 12160) 4737

abbrev pub place_of : ℕ → ℕ
place_of v = cond (ltb v 12288) ((v + 256) / 512) ((v + 255) / 512)

abbrev pub steps_of : ℕ → ℕ
steps_of v = ((side_of v).far + 255) / 512

abbrev pub near_number : ℕ → ℕ → ℕ
near_number x y = number_at (4 * (side_of x).back + 2 * (side_of y).back) (steps_of x) (steps_of y)
