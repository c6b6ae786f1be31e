-- `hear`: each round takes some of the bytes, as `feed` does.
use Rattle.std.proofs.Common.{◌≡◌, ◌-◌, ◌≤◌, length, take}
use Rattle.salvage.specs.Working.{feedings, salvage_at}
use Rattle.salvage_files.proofs.hear.Given as goal

abbrev pub invariant-loop-i : goal.invariant-loop-i
invariant-loop-i g l = record {
  within : l.i ≤ length l.bytes;
  page : length l.page ≡ length l.initial.page;
  so_far : salvage_at l.salvage ≡ feedings (salvage_at l.initial.salvage) (take l.i l.bytes);
}

abbrev pub decreases-loop-i : goal.decreases-loop-i
decreases-loop-i g l = length l.bytes - l.i
