-- `outer`: the least key of the columns so far.
use Rattle.round_columns.specs.Cells.{Rimmed}
use Rattle.round_columns.proofs.outer.Given as goal

-- the best so far is the least key of the rim's columns before the i-th
abbrev pub invariant-loop-i : goal.invariant-loop-i
invariant-loop-i l = Rimmed l.s l.i l.best
