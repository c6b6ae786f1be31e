-- A sample that may be missing (02, Wish 4): "A sample is either heard, with its two floats, or missing."
--   GivenSampled         what is given for such a sample: whether it is missing, and what is given for a pair, 0, 0 where it is
--   heard_sampled s       what is heard of it
--   marked_given          what each case of the answer gives
use Rattle.std.specs.Prelude.{Bool, true, false, pos, Option, Some, None, Result, Ok, Err}
use Rattle.samples.specs.declared.Sampled.{Sampled}
use Rattle.samples.specs.declared.Sampled.TheVariants as sampled
use Rattle.samples.specs.declared.Heard.{Heard}
use Rattle.samples.specs.declared.Fault.{Fault}
use Rattle.samples.specs.Given.{GivenSample, both_done, refused_at, place_of}
use Rattle.samples.specs.Heard.{heard_sample}

pub record GivenSampled : Type 0 where
  pub missing : Bool
  pub given : GivenSample

abbrev pub missing_given : GivenSampled
missing_given = record { missing = true; given = both_done (pos 0) (pos 0) }

abbrev pub heard_sampled : Sampled → GivenSampled
heard_sampled (sampled.Heard x y) = record { missing = false; given = heard_sample x y }
heard_sampled sampled.Missing = missing_given

abbrev pub marked_given : Result (Option Heard) Fault → GivenSampled
marked_given (Ok (Some h)) = record { missing = false; given = both_done h.x h.y }
marked_given (Ok None) = missing_given
marked_given (Err f) = record { missing = false; given = refused_at (place_of f) }
