-- `record_symbols`: where the loop over the symbols stands (proofs/Going).
use Rattle.machine.specs.Parts.{whole}
use Rattle.receiver_meaning.specs.Piece.{marks_of}
use Rattle.piece_input.specs.Marks.{is_marked, marks_in}
use Rattle.recorder.proofs.Going.{Going}
use Rattle.recorder.proofs.piece.record_symbols.Given as goal

abbrev pub invariant-loop-taken : goal.invariant-loop-taken
invariant-loop-taken l =
    let i = l.initial in
    Going (record { ms = marks_of (is_marked l.fn.marks) (marks_in l.fn.marks); xs = l.fn.samples; out = i.out; bytes = i.bytes; rx = whole i.core i.sums i.registers i.picks })
    (record { out = l.out; bytes = l.bytes; rx = whole l.core l.sums l.registers l.picks; taken = l.taken; written = l.written; recorded = l.recorded })
