-- What a start allows, over symbols alone, in the order of time; and the same as a sequence of the theory. 01: "An allowed sequence
-- is a state sequence and symbols such that each symbol's Y0, I1 and I2' carry its state to the next". A sender's symbols are
-- stated in the first way, a receiver's in the second. That both are the same is proved in proofs/Paths.
--   Allows u b cs        the symbols cs are allowed at width u with the start b
--   Runs u b p           the sequence p starts as b says, and its symbols are allowed from its first state and end in its last
--   Drawn u M b ys cs t  an allowed sequence for ys with the symbols cs that ends in the state t
use Rattle.std.specs.Prelude.{◌≡◌, List, ℕ, ◌<◌, T}
use Rattle.trellis.specs.Code.{Path, last, symbols, Allowed}
use Rattle.trellis.specs.Measure.{Start, may_start, Measure, wei_code}
use Rattle.wei.specs.Symbol.{Symbol, AllowedFrom, ending}

pub record Allows (u : ℕ) (b : Start) (cs : List Symbol) : Type 0 where
  pub from : ℕ
  pub from-below : from < 16
  pub from_start : T (may_start b from)
  pub allowed : AllowedFrom u from cs

pub record Runs (u : ℕ) (b : Start) (p : Path Symbol) : Type 0 where
  pub from : ℕ
  pub from-below : from < 16
  pub from_start : T (may_start b from)
  pub allowed : AllowedFrom u from (symbols p)
  pub ends : ending from (symbols p) ≡ last p

pub record Drawn (u : ℕ) (M : Measure) (b : Start) (ys : List M.Heard) (cs : List Symbol) (t : ℕ) : Type 0 where
  pub path : Path Symbol
  pub allowed : Allowed (wei_code u M b) ys path
  pub symbols-are : symbols path ≡ cs
  pub ends : last path ≡ t
