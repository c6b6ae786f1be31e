-- `hear_chunk`: what is kept of a line stays within the line.
use Rattle.std.proofs.Common.{◌≤◌, length}
use Rattle.record_files.proofs.hear_chunk.Given as goal

abbrev pub invariant-loop-i : goal.invariant-loop-i
invariant-loop-i l = l.now.part.held ≤ length l.line
