-- `each_chunk`: the step takes any chunk with what the chunks so far left, and what they left is what the steps left from the first on.
use Rattle.std.proofs.Common.{List, Some}
use Rattle.std.specs.Io.KnownBytes.{Consumes}
use Rattle.std.specs.List.{FoldsTo}
use Rattle.edge.specs.Chunks.{joined}
use Rattle.edge.proofs.each_chunk.Given as goal

abbrev pub invariant-loop : goal.invariant-loop
invariant-loop g l =
    ((b : _) → goal.F-pre g l.step l.now b)
    × ((bs : List _) × FoldsTo {P = g.row.F.Denot × g.row.T.Denot} (λ p b q. goal.F-step g p.0 p.1 b (Some q.1) q.0) (l.fn.step, l.fn.first) bs (l.step, l.now)
    × Consumes (g.R.Read.remaining l.initial.from) (g.R.Read.remaining l.from) (joined bs))
