-- `hear_chunk`: the bytes up to the next newline grow the line, and the newline has it answered; what the page holds is what was answered.
use Rattle.std.proofs.Common.{◌≡◌, ℕ, ◌-◌, ◌≤◌, List, length, take}
use Rattle.stream.specs.Stream.{Course, streaming, Stands}
use Rattle.stream.proofs.hear_chunk.Given as goal

abbrev pub invariant-loop-from : goal.invariant-loop-from
invariant-loop-from l = record {
  within : l.from ≤ length l.chunk;
  line : length l.line ≡ length l.initial.line;
  page : length l.page ≡ 131072;
  room : l.now.at ≤ 131072;
  held : l.now.part.held ≤ length l.line;
  begun : l.from ≡ 0 → l.now.at ≤ 32768;
  moves : (c : Course) (b : List ℕ) → Stands c b l.initial.line l.initial.now l.initial.page
      → Stands (streaming (length l.initial.line) c (take l.from l.chunk)) b l.line l.now l.page;
}

abbrev pub decreases-loop-from : goal.decreases-loop-from
decreases-loop-from l = length l.chunk - l.from
