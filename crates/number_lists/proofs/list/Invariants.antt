-- `list`: so many numbers are in the list, and the tokens from `from` on are still to be read.
use Rattle.std.proofs.Common.{◌≤◌, length}
use Rattle.number_lists.proofs.Lists.{Listed}
use Rattle.number_lists.proofs.list.Given as goal

abbrev pub invariant-loop-k : goal.invariant-loop-k
invariant-loop-k g l = record {
  within : l.from ≤ length l.s;
  listed : Listed g.N.Written.written l.s l.fn.list l.from l.k l.list;
}
