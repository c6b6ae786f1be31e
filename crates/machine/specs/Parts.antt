-- A receiver in its parts, as the code has it: what its numbers and sums must be, and the record they make.
--   CoreFits c           the ranges that `sound_core` tests, as facts
--   SumsFit sums         no state keeps more than one that nothing reaches
--   Ready c sums         both
--   whole                an open receiver, from its parts
use Rattle.std.specs.Prelude.{ℕ, ◌≤◌, ◌<◌, ◌≡◌, true, List, get_or}
use Rattle.points.specs.Agreed.{is_accord}
use Rattle.machine.specs.declared.Core.{Core}
use Rattle.machine.specs.declared.Receiver.{Receiver}
use Rattle.select.specs.Select.{limit}

pub record CoreFits (c : Core) : Type 0 where
  pub agreed : is_accord c.accord ≡ true
  pub some-window : 1 ≤ c.window
  pub small-window : c.window ≤ 64
  pub turn_below : c.turn ≤ 4
  pub slot-below : c.slot < 64
  pub held : c.pending ≤ c.window

abbrev pub SumsFit : List ℕ → Type 0
SumsFit sums = (i : ℕ) → get_or sums i 0 ≤ limit

pub record Ready (c : Core) (sums : List ℕ) : Type 0 where
  pub core-fits : CoreFits c
  pub sums-fit : SumsFit sums

abbrev pub whole : Core → List ℕ → List ℕ → List ℕ → Receiver
whole c sums registers picks = record { live = true; core = c; sums = sums; registers = registers; picks = picks }
