-- `least_keys`: the least keys of the numbers so far.
use Rattle.std.proofs.Common.{◌≡◌}
use Rattle.round_search.specs.Key.{least_keys}
use Rattle.round_search.proofs.key.least_keys.Given as goal

-- the best keys are the least of the numbers below k
abbrev pub invariant-loop-k : goal.invariant-loop-k
invariant-loop-k l = l.best ≡ least_keys l.h l.k
