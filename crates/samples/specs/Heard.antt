-- What is heard of a float and of a sample (01, "What the receiver hears"), over whole numbers read from the 32 bits. Definitions only;
-- proofs/Laws.antt has what follows for callers. The bits of an f32 are a sign, an exponent's field of 8 bits and 23 digits. A finite
-- value is ± units / 2 ^ 149, so 128 times it is 128 * units / 2 ^ 149.
--   is_negative, field, digits   the three parts of a pattern of 32 bits
--   units x t           a finite value's size in units of 2 ^ -149, by its field x and its digits t
--   signed s n          n, or -n where s is true
--   in_range s n         n with its sign, "from -8192 to 8192, both included"; else refused
--   heard_fields s x t   what is heard of the float with these parts
--   heard_bits b         what is heard of a pattern b
--   heard_coordinate v   what is heard of a float v. (A float that is no number has many patterns; one stands for it here, and all are
--                       refused.)
--   both_or_fault a b      what is given for a pair, by what is given for each of the two
--   heard_sample x y     what is heard of the sample (x, y)
use Rattle.std.specs.Prelude.{ℕ, zero, suc, ◌+◌, ◌*◌, ◌/◌, ◌%◌, ◌^◌, Bool, cond, ℤ, pos, neg_ℤ, leb, eqb, Float}
use Rattle.std.specs.Float.{binary32}
use Rattle.std.specs.Float.Ieee.{to_bits}
use Rattle.samples.specs.Nearest.{nearest_even}
use Rattle.samples.specs.Given.{GivenCoordinate, done, refused, GivenSample, both_done, refused_at}

abbrev pub is_negative : ℕ → Bool
is_negative b = leb (2 ^ 31) b

abbrev pub field : ℕ → ℕ
field b = b % 2 ^ 31 / 2 ^ 23

abbrev pub digits : ℕ → ℕ
digits b = b % 2 ^ 23

-- above the digits stands a leading one; only a field of 0 has none, and counts as a field of 1
unfoldable pub units : ℕ → ℕ → ℕ
units zero t = t
units (suc x) t = (2 ^ 23 + t) * 2 ^ x

abbrev pub signed : Bool → ℕ → ℤ
signed s n = cond s (neg_ℤ (pos n)) (pos n)

unfoldable pub in_range : Bool → ℕ → GivenCoordinate
in_range s n = cond (leb n 8192) (done (signed s n)) refused

-- "refused exactly if v is not a number, is infinite", both with a field of 255, "or the rounded number is outside"
unfoldable pub heard_fields : Bool → ℕ → ℕ → GivenCoordinate
unfolding units nearest_even in_range
heard_fields s x t = cond (eqb x 255) refused (in_range s (nearest_even (128 * units x t) (2 ^ 149)))

unfoldable pub heard_bits : ℕ → GivenCoordinate
unfolding heard_fields
heard_bits b = heard_fields (is_negative b) (field b) (digits b)

unfoldable pub heard_coordinate : Float → GivenCoordinate
unfolding heard_bits
heard_coordinate v = heard_bits (to_bits binary32 v)

abbrev pub both_or_fault : GivenCoordinate → GivenCoordinate → GivenSample
both_or_fault a b = cond (eqb a.number 0) (cond (eqb b.number 0) (both_done a.value b.value) (refused_at 1)) (refused_at 0)

unfoldable pub heard_sample : Float → Float → GivenSample
unfolding heard_coordinate
heard_sample x y = both_or_fault (heard_coordinate x) (heard_coordinate y)
