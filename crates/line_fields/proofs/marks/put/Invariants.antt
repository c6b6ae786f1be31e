-- `put`: so many marks of the row stand in front of the list.
use Rattle.std.proofs.Common.{◌≡◌, ◌++◌, take, drop}
use Rattle.line_fields.specs.Row.{marks_of}
use Rattle.line_fields.proofs.marks.put.Given as goal

abbrev pub invariant-loop-i : goal.invariant-loop-i
invariant-loop-i l = l.marks ≡ take l.i (marks_of l.row) ++ drop l.i l.initial.marks
