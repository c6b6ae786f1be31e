-- `serve`: the passes so far have brought the program to where it is: what was heard is answered, and handed on page by page (`Served`,
-- `joined`).
use Rattle.std.proofs.Common.{◌≡◌, ◌≤◌, length}
use Rattle.stream.proofs.Streams.{Served}
use Rattle.stream.proofs.serve.Given as goal

abbrev pub invariant-loop : goal.invariant-loop
invariant-loop g l = record {
  page : length l.page ≡ 131072;
  place : l.now.from ≤ l.now.to;
  end : l.now.to ≤ length l.chunk;
  held : l.now.lab.part.held ≤ length l.line;
  served : Served (length l.line) l.line l.now.lab;
}
