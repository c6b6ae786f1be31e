-- `end_state`: the least of the states passed.
use Rattle.std.proofs.Common.{◌≡◌, ◌-◌, ◌<◌, get_or}
use Rattle.trellis.specs.Pick.{least}
use Rattle.sums.proofs.end_state.Given as goal

abbrev pub invariant-loop-s : goal.invariant-loop-s
invariant-loop-s l = (l.best < l.s) × (l.best ≡ least (λ i. get_or l.sums i 0) (l.s - 1))
