-- `pack`: a word a round, and two numbers that fit 32 bits.
use Rattle.std.proofs.Common.{ℕ, ◌≡◌, ◌*◌, ◌<◌, ◌++◌, drop, slice_index_or}
use Rattle.lists.specs.Tabled.{tabled}
use Rattle.c_layout.specs.Halves.{pair_at}
use Rattle.c_layout.proofs.pack.Given as goal

abbrev pub invariant-loop-i : goal.invariant-loop-i
invariant-loop-i l = record {
  packed : l.w-items ≡ tabled (pair_at l.numbers) l.i ++ drop l.i l.initial.w-items;
  small : (k : ℕ) → k < 2 * l.i → slice_index_or l.numbers k 0 < 4294967296;
}
