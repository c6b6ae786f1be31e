-- `apart`: the bits in which the words passed differ are gathered.
use Rattle.std.proofs.Common.{◌≡◌, get_or, drop}
use Rattle.registers.specs.Registers.{apart_from, apart_of}
use Rattle.registers.proofs.apart.Given as goal

abbrev pub invariant-loop-word : goal.invariant-loop-word
invariant-loop-word l = apart_of l.ways ≡ apart_from (get_or l.ways 0 0) l.bits (drop l.word-index l.ways)
