-- `lowest`: the least of the numbers passed.
use Rattle.std.proofs.Common.{◌≡◌, ◌-◌, get_or}
use Rattle.trellis.specs.Pick.{least}
use Rattle.sums.proofs.lowest.Given as goal

abbrev pub invariant-loop-s : goal.invariant-loop-s
invariant-loop-s l = l.low ≡ get_or l.numbers (least (λ i. get_or l.numbers i 0) (l.s - 1)) 0
