-- `keep`: the registers passed are one bit longer, the others as they were.
use Rattle.std.proofs.Common.{◌≡◌, ◌++◌, drop}
use Rattle.lists.specs.Tabled.{tabled}
use Rattle.picks.specs.Picks.{longer_at}
use Rattle.picks.proofs.keep.Given as goal

abbrev pub invariant-loop-k : goal.invariant-loop-k
invariant-loop-k l = l.picks ≡ tabled (longer_at l.initial.picks l.i3) l.k ++ drop l.k l.initial.picks
