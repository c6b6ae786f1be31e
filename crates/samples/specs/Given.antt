-- What 01 gives back, and which case of the code's answers stands for it. The meaning speaks in these numbers and values and never in
-- the enums of src/lib.rt, and the contracts compare the two. Numbers are those of 01's table "Numbers given back": 0 is done, 5 a
-- coordinate "refused as a float". "A refused float pair gives 0, 0 and says which of the two was first at fault"; places count from 0.
--   GivenCoordinate      what is given for one float: number and whole number
--   done z, refused      its two cases
--   GivenSample          what is given for a pair: number, both whole numbers, and the place at fault if there is one
--   both_done x y, refused_at p   its two cases
--   place_of f           the place of the coordinate at fault
--   coordinate_given, sample_given   what each case of the answers gives
use Rattle.std.specs.Prelude.{ℕ, ℤ, pos, Option, Some, None, Result, Ok, Err}
use Rattle.std.proofs.Math.Option as place
use Rattle.samples.specs.declared.Heard.{Heard}
use Rattle.samples.specs.declared.Fault.{Fault}
use Rattle.samples.specs.declared.Fault.TheVariants as fault

pub record GivenCoordinate : Type 0 where
  pub number : ℕ
  pub value : ℤ

abbrev pub done : ℤ → GivenCoordinate
done z = record { number = 0; value = z }

abbrev pub refused : GivenCoordinate
refused = record { number = 5; value = pos 0 }

pub record GivenSample : Type 0 where
  pub number : ℕ
  pub x : ℤ
  pub y : ℤ
  pub place : place.Option ℕ

abbrev pub both_done : ℤ → ℤ → GivenSample
both_done x y = record { number = 0; x = x; y = y; place = place.none }

abbrev pub refused_at : ℕ → GivenSample
refused_at p = record { number = 5; x = pos 0; y = pos 0; place = place.some p }

abbrev pub place_of : Fault → ℕ
place_of fault.X = 0
place_of fault.Y = 1

abbrev pub coordinate_given : Option ℤ → GivenCoordinate
coordinate_given (Some z) = done z
coordinate_given None = refused

abbrev pub sample_given : Result Heard Fault → GivenSample
sample_given (Ok h) = both_done h.x h.y
sample_given (Err f) = refused_at (place_of f)
