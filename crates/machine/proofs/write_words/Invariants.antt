-- `write_words`: the words and the turn so far are those of the symbols passed.
use Rattle.std.proofs.Common.{◌≡◌, ◌≤◌, ◌++◌, take, drop}
use Rattle.trellis.specs.Speak.{after}
use Rattle.trellis.specs.Words.{words_from, turn_after}
use Rattle.machine.specs.Machine.{way_from}
use Rattle.machine.proofs.write_words.Given as goal

abbrev pub invariant-loop-j : goal.invariant-loop-j
invariant-loop-j l =
    (l.turn ≤ 4)
    × (l.turn ≡ after turn_after l.core.turn (take l.j (way_from l.core l.registers l.picks l.s)))
    × (l.out ≡ words_from l.core.accord.u l.core.turn (take l.j (way_from l.core l.registers l.picks l.s)) ++ drop l.j l.initial.out)
