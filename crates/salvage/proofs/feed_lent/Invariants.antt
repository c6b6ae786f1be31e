-- `feed_lent`: a run of bytes a round, and what is written for the record that they make whole.
use Rattle.std.proofs.Common.{◌-◌, length}
use Rattle.salvage.specs.Working.{held_of}
use Rattle.salvage.proofs.Feeds.{Going}
use Rattle.salvage.proofs.feed_lent.Given as goal

abbrev pub invariant-loop-used : goal.invariant-loop-used
invariant-loop-used l =
    Going (held_of l.initial.frame l.initial.judge l.initial.tally l.initial.sums l.initial.registers l.initial.picks l.initial.due) l.bytes l.initial.page
    (held_of l.frame l.judge l.tally l.sums l.registers l.picks l.due) l.page l.used l.size

abbrev pub decreases-loop-used : goal.decreases-loop-used
decreases-loop-used l = length l.bytes - l.used
