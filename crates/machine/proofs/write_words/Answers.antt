-- `write_words`: the words so far, and the turn after them.
use Rattle.std.proofs.Common.{ℕ, ◌-◌, refl, ap, ◌∙◌, arith}
use Rattle.trellis.specs.Speak.{speak, after}
use Rattle.picks.specs.Picks.{symbol_in, said_of}
use Rattle.machine.specs.Machine.{slot_of}
use Rattle.machine.proofs.CodeWords.{turn_below, turn_more, words_more}
use Rattle.machine.proofs.write_words.Goals as goal

pub loop-j-init : goal.loop-j-init
unfolding speak after
loop-j-init c = let p = c.requires in (p.0.turn_below, refl, refl)

pub loop-j-preserved : goal.loop-j-preserved
loop-j-preserved c =
    let a = c.args in
    let p = c.requires in
    let m = c.loop-j in
    let more = c.loop-j-test.true in
    let age = a.core.pending - 1 - m.j in
    let is =
    c.word_in-said.ensures ∙ ap (λ (x : ℕ). said_of a.core.accord.u m.turn (symbol_in a.core.accord.u a.picks.now (slot_of a.core m.j) age x))
    c.subset_at-k.ensures.0 in (
      omega (arith, turn_below a.core a.registers.now a.picks.now a.out.now m.out a.s a.n m.j m.turn p.2 more c.word_in-said.result is),
      turn_more a.core a.registers.now a.picks.now a.out.now m.out a.s a.n m.j m.turn p.2 more c.word_in-said.result is m.invariant.1,
      words_more a.core a.registers.now a.picks.now a.out.now m.out a.s a.n m.j m.turn p.2 more c.word_in-said.result is m.invariant.1 p.3 m.invariant.2,
    )
