-- `move_word`: the words passed are put.
use Rattle.std.proofs.Common.{◌≡◌, ◌/◌, ◌%◌, ◌^◌, get_or}
use Rattle.registers.specs.Registers.{longer}
use Rattle.registers.specs.Put.{put_below}
use Rattle.registers.proofs.move_word.Given as goal

abbrev pub invariant-loop-s : goal.invariant-loop-s
invariant-loop-s l = l.registers ≡ put_below l.b (λ s. longer (get_or l.ways s 0) (get_or l.below s 0 / 2 ^ 61 % 8)) l.initial.registers l.s
