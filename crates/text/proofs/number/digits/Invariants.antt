-- `number::digits`: what is read so far, and the bytes to come, write the same number as all bytes.
use Rattle.std.proofs.Common.{◌≤◌}
use Rattle.text.proofs.Digits.{Reads}
use Rattle.text.proofs.number.digits.Given as goal

abbrev pub invariant-loop-b : goal.invariant-loop-b
invariant-loop-b l = (l.n ≤ l.most) × Reads l.base l.s l.n l.b-index
