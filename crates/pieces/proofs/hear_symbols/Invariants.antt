-- `hear_symbols`: where the loop over the symbols stands (proofs/Going).
use Rattle.machine.specs.Parts.{whole}
use Rattle.receiver_meaning.specs.Piece.{marks_of}
use Rattle.piece_input.specs.Marks.{is_marked, marks_in}
use Rattle.pieces.proofs.Going.{Going}
use Rattle.pieces.proofs.hear_symbols.Given as goal

abbrev pub invariant-loop-taken : goal.invariant-loop-taken
invariant-loop-taken l =
    Going (marks_of (is_marked l.fn.marks) (marks_in l.fn.marks)) l.fn.samples l.initial.out (whole l.initial.core l.initial.sums l.initial.registers l.initial.picks)
    l.out (whole l.core l.sums l.registers l.picks) l.taken l.written
