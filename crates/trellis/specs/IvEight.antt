-- 000's IV-8, from 01: "For a free start a sequence of symbols is allowed exactly if each five in a row meet 000's IV-8; so up to
-- four symbols anything is allowed". First over symbols, then over pairs of points, all in the order of time. That it is so is
-- proved in proofs/IvEight and proofs/IvPoints.
--   Bits                  Y0, I1 and I2' of a symbol: its 4D subset
--   Meets a b c d e       IV-8 for five in a row
--   MeetsFirst bs         for the first five, if there are five
--   Fives bs              for each five in a row
--   bits_of c              the bits of a symbol
--   label_of p             the label of a point, from its coordinates modulo 4
--   label_bits l m         the bits that two labels give
--   point_bits pq          the bits that the labels of two points give
--   points_of c            the two points of a symbol
--   IsPoint u p           p is a point of the map at width u; IsPair: both of a pair are
--   AllowsPoints u b ps   ps are the points of symbols that the start b allows
use Rattle.std.specs.Prelude.{◌≡◌, Bool, true, false, List, [], ◌∷◌, map, ℕ, ◌+◌, ◌/◌, ◌%◌, ◌^◌, ◌<◌, eqb}
use Rattle.trellis.specs.Measure.{Start, Two}
use Rattle.trellis.specs.Allowed.{Allows}
use Rattle.wei.specs.Label.{turn_from}
use Rattle.wei.specs.Symbol.{Symbol}
use Rattle.points.specs.declared.Point.{Point}
use Rattle.points.specs.Points.{mod4}
use Rattle.points.specs.Turn.{point_of}
use Rattle.points.specs.Pair.{first_point, second_point}

pub record Bits : Type 0 where
  pub y0 : ℕ
  pub i1 : ℕ
  pub i2 : ℕ

-- Y0(k+1) = Y0(k-2) + I2'(k-1) + Y0(k-3) + I2'(k-2) + I1(k), modulo 2; a is k-3 and e is k+1. 000 counts points, two to a
-- symbol: its n+2, n, n-2, n-4 and n-6 are e, d, c, b and a.
abbrev pub Meets : Bits → Bits → Bits → Bits → Bits → Type 0
Meets a b c d e = e.y0 ≡ (b.y0 + c.i2 + a.y0 + b.i2 + d.i1) % 2

-- the first five, where there are five
abbrev pub MeetsFirst : List Bits → Type 0
MeetsFirst (a ∷ b ∷ c ∷ d ∷ e ∷ l) = Meets a b c d e
MeetsFirst (a ∷ b ∷ c ∷ d ∷ []) = Unit {0}
MeetsFirst (a ∷ b ∷ c ∷ []) = Unit {0}
MeetsFirst (a ∷ b ∷ []) = Unit {0}
MeetsFirst (a ∷ []) = Unit {0}
MeetsFirst [] = Unit {0}

abbrev pub Fives : List Bits → Type 0
Fives [] = Unit {0}
Fives (a ∷ l) = MeetsFirst (a ∷ l) × Fives l

-- ── symbols ──
abbrev pub bits_of : Symbol → Bits
bits_of c = record { y0 = c.y0; i1 = c.i1; i2 = c.i2 }

-- ── pairs of points ──
-- "Modulo 4 the pair (x, y) is (1,1) in A, (1,3) in C, (3,3) in B, (3,1) in D"
abbrev pub label_by : Bool → Bool → ℕ
label_by false false = 0
label_by false true = 1
label_by true true = 2
label_by true false = 3

unfoldable pub label_of : Point → ℕ
label_of p = label_by (eqb (mod4 p.x) 3) (eqb (mod4 p.y) 3)

-- "first q, second q + Y0 + 2·I1 modulo 4": the difference of the labels is Y0 + 2·I1, and I2' is the low bit of q
abbrev pub label_bits : ℕ → ℕ → Bits
label_bits l m = record { y0 = turn_from l m % 2; i1 = turn_from l m / 2; i2 = l % 2 }

abbrev pub point_bits : Two Point → Bits
point_bits pq = label_bits (label_of pq.first) (label_of pq.second)

abbrev pub points_of : Symbol → Two Point
points_of c = record { first = first_point c; second = second_point c }

pub record IsPoint (u : ℕ) (p : Point) : Type 0 where
  pub label : ℕ
  pub number : ℕ
  pub label-below : label < 4
  pub number-below : number < 2 ^ u
  pub is : point_of label number ≡ p

abbrev pub IsPair : ℕ → Two Point → Type 0
IsPair u pq = IsPoint u pq.first × IsPoint u pq.second

pub record AllowsPoints (u : ℕ) (b : Start) (ps : List (Two Point)) : Type 0 where
  pub symbols : List Symbol
  pub are : map points_of symbols ≡ ps
  pub allowed : Allows u b symbols
