-- `feed_lent`: a run of bytes a round.
use Rattle.std.proofs.Common.{◌≡◌, ◌-◌, ◌≤◌, length, drop}
use Rattle.replay.specs.Course.{course_of, feedings}
use Rattle.replay.proofs.feed_lent.Given as goal

abbrev pub invariant-loop-i : goal.invariant-loop-i
invariant-loop-i l = record {
  within : l.i ≤ length l.bytes;
  fed : feedings (course_of l.initial.frame l.initial.judge l.initial.sums l.initial.registers l.initial.picks l.initial.due) l.bytes
      ≡ feedings (course_of l.frame l.judge l.sums l.registers l.picks l.due) (drop l.i l.bytes);
}

abbrev pub decreases-loop-i : goal.decreases-loop-i
decreases-loop-i l = length l.bytes - l.i
