-- The promises of the conversion: the number given and all lent memory after the call are those of specs/Calls, for every input. As each is
-- an equation, any two results are equal.
--   Samples, Converts      one sample; a list of them
--   given_of, ConvertsTo    inside these: what was heard of a sample, and what the loop leaves
--   stop_number, stop_place    the number of an outcome of the loop, and its place, which is 0 where it has none
use Rattle.std.specs.Prelude.{ℕ, ◌≡◌, List, ◌++◌, ℤ, length, drop, Result, Ok, Err, ⊤}
use Rattle.samples.specs.Given.{GivenSample, both_done, refused_at}
use Rattle.c_samples.specs.declared.Stop.{Stop}
use Rattle.c_samples.specs.declared.Stop.TheVariants.{Refused, Full}
use Rattle.c_samples.specs.Calls.{Sampling, Conversion, SamplesCall}

-- what was heard of a sample, in the code's own answer
abbrev pub given_of : Result (ℤ × ℤ) ℕ → GivenSample
given_of (Ok p) = both_done p.0 p.1
given_of (Err p) = refused_at p

abbrev pub stop_number : Result ⊤ Stop → ℕ
stop_number (Ok x) = 0
stop_number (Err (Refused p)) = 5
stop_number (Err Full) = 8

abbrev pub stop_place : Result ⊤ Stop → ℕ
stop_place (Ok x) = 0
stop_place (Err (Refused p)) = p
stop_place (Err Full) = 0

pub record Samples (c : Sampling) (n : ℕ) (out : List ℤ) : Type 0 where
  pub number : n ≡ c.number
  pub out-is : out ≡ c.out

-- inside a list's: what the loop over the samples leaves
pub record ConvertsTo (c : Conversion) (out : List ℤ) (n w p : ℕ) (o : List ℤ) : Type 0 where
  pub number : n ≡ c.number
  pub written : w ≡ length c.written
  pub place : p ≡ c.place
  pub out-is : o ≡ c.written ++ drop (length c.written) out

pub record Converts (c : SamplesCall) (n : ℕ) (out : List ℤ) (told : List ℕ) : Type 0 where
  pub number : n ≡ c.number
  pub out-is : out ≡ c.out
  pub told_is : told ≡ c.told
