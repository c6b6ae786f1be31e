-- What an opening names: the start as the theory has it, and the window of the plain opening.
--   plain_window    02, Wish 9: "The plain opening now has window 32"
--   start_of b      the start that an opening names
--   start_fits b    it is free, or names one of the sixteen states
--   start_at n      the start that a number stands for
use Rattle.std.specs.Prelude.{ℕ, Bool, true, cond, eqb, leb}
use Rattle.trellis.specs.Measure as measure
use Rattle.openings.specs.declared.Start.{Start}
use Rattle.openings.specs.declared.Start.TheVariants.{Free, At}

abbrev pub plain_window : ℕ
plain_window = 32

abbrev pub start_of : Start → measure.Start
start_of Free = measure.free
start_of (At n) = measure.named n

abbrev pub start_fits : Start → Bool
start_fits Free = true
start_fits (At n) = leb n 15

-- a start as a number, for callers that have only numbers: 16 is the free one
abbrev pub start_at : ℕ → Start
start_at n = cond (eqb n 16) Free (At n)
