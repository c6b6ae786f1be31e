-- `side_by_side`: what waits lies in its chunk, and the page has room for a line.
use Rattle.std.proofs.Common.{◌+◌, ◌≤◌, length}
use Rattle.compare_files.proofs.side_by_side.Given as goal

abbrev pub invariant-loop : goal.invariant-loop
invariant-loop g l = record {
  first : l.now.first.from ≤ l.now.first.to;
  first-end : l.now.first.to ≤ length l.one;
  second : l.now.second.from ≤ l.now.second.to;
  second-end : l.now.second.to ≤ length l.two;
  room : l.now.out.at + 40 ≤ length l.page;
}
