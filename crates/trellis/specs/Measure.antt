-- Wei's code as a `Code`, for any way to measure received symbols. What is heard, how far a symbol is from it and how ties fall
-- are one record; the trellis is the rule of `wei` and stands here once.
--   Start            a free start, or a named one
--   may_start b s     s may stand first
--   GoodStart b      the start is free or names a state
--   Measure          what is heard, the distance, and the order of ties
--   First u M y c    c is the first of its subset for what was heard: by distance, then by the order of ties
--   wei_code u M b    the code of width u
--   Two P            a received symbol: two received points
--   cap, counted     the most that a point's distance counts for, and what it counts for
--   first_far P d y c, second_far P d y c   the true distance of each point of c, where d is that of a received point from the point
--                    with a label and a number
--   far_of P d n y c  the sum of what the two distances count for, by n
--   tie_row P d y c   the numbers by which ties between symbols of a subset are settled, the first first
--   pairs P d n      the measure of 01 and 02: counted distances, and that order
use Rattle.std.specs.Prelude.{◌≡◌, ℕ, ◌+◌, ◌≤◌, ◌<◌, min, Bool, true, List, [], ◌∷◌, eqb}
use Rattle.trellis.specs.Lists.{LexLe}
use Rattle.trellis.specs.Code.{Code}
use Rattle.wei.specs.Symbol.{Symbol, first_label, last_label, Valid, Carries}

pub data Start : Type 0 where
  free : Start
  named : ℕ → Start

-- "With a free start any first state may stand; with a named start only that one"
abbrev pub may_start : Start → ℕ → Bool
may_start free s = true
may_start (named n) s = eqb s n

-- 01 refuses a "named start above 15"
abbrev pub GoodStart : Start → Type 0
GoodStart free = Unit {0}
GoodStart (named n) = n < 16

pub record Measure : Type 1 where
  pub Heard : Type 0
  -- how far a symbol is from what was heard
  pub far : Heard → Symbol → ℕ
  -- ties y c d: of symbols equally far from y, c is before d or is d
  pub ties : Heard → Symbol → Symbol → Type 0

-- of all symbols of its subset, of both types, none is nearer, and of those as near it is the first
pub record First (u : ℕ) (M : Measure) (y : M.Heard) (c : Symbol) : Type 0 where
  pub valid : Valid u c
  pub nearest : (d : Symbol) → Valid u d → d.y0 ≡ c.y0 → d.i1 ≡ c.i1 → d.i2 ≡ c.i2 → M.far y c ≤ M.far y d
  pub soonest : (d : Symbol) → Valid u d → d.y0 ≡ c.y0 → d.i1 ≡ c.i1 → d.i2 ≡ c.i2 → M.far y c ≡ M.far y d → M.ties y c d

abbrev pub wei_code : ℕ → Measure → Start → Code
wei_code u M b =
    record {
      Y = M.Heard;
      C = Symbol;
      N = 16;
      start = may_start b;
      Branch = Carries u;
      dist = M.far;
      Cle = M.ties;
    }

-- "A received symbol is four coordinates: x, y of the first point, x, y of the second"
pub record Two (P : Type 0) : Type 0 where
  pub first : P
  pub second : P

-- "The squared distance of each single 2D point is to count for no more than 262,144 in any sum" (02, Wish 8)
abbrev pub cap : ℕ
cap = 262144

unfoldable pub counted : ℕ → ℕ
counted n = min n cap

module _ (P : Type 0) (d : P → ℕ → ℕ → ℕ) where
  unfoldable pub first_far : Two P → Symbol → ℕ
  first_far y c = d y.first (first_label c) c.w1

  unfoldable pub second_far : Two P → Symbol → ℕ
  second_far y c = d y.second (last_label c) c.w2

  -- "then I3', then for each point the smaller true distance and then the smaller w" (02, Wish 8)
  abbrev pub tie_row : Two P → Symbol → List ℕ
  tie_row y c = c.i3 ∷ first_far y c ∷ c.w1 ∷ second_far y c ∷ c.w2 ∷ []

  module _ (count : ℕ → ℕ) where
    -- "whatever adds distances uses the counted" (02, Wish 8)
    unfoldable pub far_of : Two P → Symbol → ℕ
    far_of y c = count (first_far y c) + count (second_far y c)

    abbrev pub pairs : Measure
    pairs = record { Heard = Two P; far = far_of; ties = λ y b c. LexLe (tie_row y b) (tie_row y c) }
