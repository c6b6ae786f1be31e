-- `closed_receiver`: zeros throughout.
use mathlib.Core.Path.{ap}
use mathlib.Core.Bool.{false}
use lib.ListN.{replicate}
use Rattle.machine.specs.declared.Core.{Core}
use Rattle.machine.specs.Machine.{shut}
use Rattle.openings.proofs.closed_receiver.Goals as goal

pub returns : goal.returns
unfolding shut
returns c = ap (λ (k : Core). record { live = false; core = k; sums = replicate 16 0; registers = replicate 48 0; picks = replicate 72 0 }) c.fresh_core.ensures
