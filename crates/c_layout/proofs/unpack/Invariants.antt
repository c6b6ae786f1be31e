-- `unpack`: two halves a round.
use Rattle.std.proofs.Common.{◌≡◌, ◌*◌, ◌++◌, drop}
use Rattle.lists.specs.Tabled.{tabled}
use Rattle.c_layout.specs.Halves.{half_at}
use Rattle.c_layout.proofs.unpack.Given as goal

abbrev pub invariant-loop-i : goal.invariant-loop-i
invariant-loop-i l = l.all ≡ tabled (half_at l.fn.words) (2 * l.i) ++ drop (2 * l.i) l.initial.all
