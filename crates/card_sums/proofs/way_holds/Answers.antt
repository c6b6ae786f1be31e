-- `way_holds`: the two states and the subset between them are those of the step.
use mathlib.Core.Path.{◌∙◌}
use Prim.Native.Nat.{◌<◌}
use native.Mathlib.Omega.{arith}
use Rattle.wei.proofs.States.{before-below, between-below}
use Rattle.card_sums.specs.Rows.{way_holds}
use Rattle.card_sums.proofs.way_holds.Goals as goal

pub subset_between-by-requires : goal.subset_between-by-requires
subset_between-by-requires c = (rw c.before_state-s.ensures (before-below _ _ c.requires.1 c.requires.2), c.requires.1)

pub bounds-numbers-from : goal.bounds-numbers-from
bounds-numbers-from c =
    let below : c.before_state-s.result < 16 = rw c.before_state-s.ensures (before-below _ _ c.requires.1 c.requires.2) in
    omega (arith, below)

pub bounds-costs-by : goal.bounds-costs-by
bounds-costs-by c = rw c.subset_between-by.ensures (between-below _ _)

pub returns : goal.returns
unfolding way_holds
returns c = c.within.ensures ∙ rw (c.subset_between-by.ensures, c.before_state-s.ensures)
