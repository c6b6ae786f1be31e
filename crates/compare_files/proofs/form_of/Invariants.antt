-- `form_of`: what waits lies in its chunk.
use Rattle.std.proofs.Common.{◌≤◌, length}
use Rattle.compare_files.proofs.form_of.Given as goal

abbrev pub invariant-loop : goal.invariant-loop
invariant-loop g l = record { place : l.now.side.from ≤ l.now.side.to; end : l.now.side.to ≤ length l.chunk }
