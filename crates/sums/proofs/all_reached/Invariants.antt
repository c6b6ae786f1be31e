-- `all_reached`: the bits of the sums passed, beside the test of the others.
use Rattle.std.proofs.Common.{◌≡◌, ◌-◌, ◌&&◌, ltb, drop}
use Rattle.lists.specs.UpTo.{all_up_to}
use Rattle.sums.proofs.Together.{high}
use Rattle.sums.proofs.all_reached.Given as goal

abbrev pub invariant-loop-key : goal.invariant-loop-key
invariant-loop-key l = all_up_to (high - 1) l.keys ≡ (ltb l.bits high && all_up_to (high - 1) (drop l.key-index l.keys))
