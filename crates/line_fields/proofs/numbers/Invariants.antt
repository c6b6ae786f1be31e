-- `numbers`: so many numbers of the field are in the list, and the tokens from `from` on are still to be read.
use Rattle.std.proofs.Common.{length}
use Rattle.line_fields.proofs.Reading.{Read}
use Rattle.line_fields.proofs.numbers.Given as goal

abbrev pub invariant-loop-k : goal.invariant-loop-k
invariant-loop-k g l = Read g.N.Written.written l.s l.at (length l.fn.list) l.from l.k l.list
