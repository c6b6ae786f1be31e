-- `word_by`.
use Rattle.std.proofs.Common.{arith}
use Rattle.picks.proofs.CodeWords.{last-below, said}
use Rattle.picks.proofs.word_by.Goals as goal

pub overflow_add-l : goal.overflow_add-l
overflow_add-l c =
    let a = c.args in
    record { fits = omega (arith, last-below a.u a.turn a.i3 a.numbers a.k c.labels-l.result c.requires.0 c.requires.2 c.labels-l.ensures) }

pub number_at-w2-requires : goal.number_at-w2-requires
number_at-w2-requires c =
    let a = c.args in
    omega (arith, last-below a.u a.turn a.i3 a.numbers a.k c.labels-l.result c.requires.0 c.requires.2 c.labels-l.ensures)

pub returns : goal.returns
returns c =
    let a = c.args in
    said a.u a.turn a.i3 a.numbers a.k c.labels-l.result c.requires.0 c.requires.2 c.labels-l.ensures c.number_at-w1.result
    c.number_at-w2.result c.turn_since-d.result c.number_at-w1.ensures c.number_at-w2.ensures c.turn_since-d.ensures c.pack-word.result
    c.pack-word.ensures
