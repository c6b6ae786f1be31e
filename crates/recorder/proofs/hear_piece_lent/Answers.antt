-- `hear_piece_lent`: closed, uneven, or the symbols of the piece.
use mathlib.Core.Path.{◌≡◌, sym, subst, ◌∙◌}
use mathlib.Core.Bool.{Bool, true}
use Rattle.machine.specs.Machine.{sound}
use Rattle.machine.proofs.Sound.{sound-live}
use Rattle.piece_input.specs.Marks.{is_marked, marks_in, piece_by}
use Rattle.piece_input.proofs.Marks.{fits-even}
use Rattle.receiver.specs.Promise.{parts_of}
use Rattle.recorder.proofs.Ends.{lent, lent_shut, lent_open, tape-closed, tape-uneven, tape-parts}
use Rattle.recorder.proofs.hear_piece_lent.Goals.{then-picks-ne72-via-then-picks-ne72, then-picks-ne72-via-else-picks-ne72+then-not-parts_fit}
use Rattle.recorder.proofs.hear_piece_lent.Goals as goal

pub returns-then-picks-ne72 : goal.returns-then-picks-ne72
unfolding sound
returns-then-picks-ne72 c =
    let a = c.args in
    rw c.nothing_kept.ensures
    (tape-closed (lent a.live a.core a.sums.now a.registers.now a.picks.now) a.out.now a.bytes.now (piece_by a.marks a.samples.now)
    (elim c.then-picks-ne72.branch [
      | then-picks-ne72-via-then-picks-ne72 w ↦ lent_shut a.live a.core a.sums.now a.registers.now a.picks.now w.if-picks-ne72.true
      | then-picks-ne72-via-else-picks-ne72+then-not-parts_fit w ↦
          lent_open a.live a.core a.sums.now a.registers.now a.picks.now w.if-picks-ne72.false _ w.parts_fit.ensures ∙ w.if-not-parts_fit.true
    ]))

pub returns-then-not-fits : goal.returns-then-not-fits
unfolding sound
returns-then-not-fits c =
    let a = c.args in
    rw c.nothing_kept-then-not-fits.ensures
    (tape-uneven (lent a.live a.core a.sums.now a.registers.now a.picks.now) a.out.now a.bytes.now (piece_by a.marks a.samples.now)
    (lent_open a.live a.core a.sums.now a.registers.now a.picks.now c.if-picks-ne72.false _ c.parts_fit.ensures ∙ c.if-not-parts_fit.false)
    (sym c.fits.ensures ∙ c.if-not-fits.true))

pub record_symbols-requires : goal.record_symbols-requires
unfolding sound
record_symbols-requires c =
    let a = c.args in
    let o = lent_open a.live a.core a.sums.now a.registers.now a.picks.now c.if-picks-ne72.false _ c.parts_fit.ensures ∙ c.if-not-parts_fit.false in (
      subst (λ (b : Bool). sound (parts_of b a.core a.sums.now a.registers.now a.picks.now) ≡ true)
          (sound-live (lent a.live a.core a.sums.now a.registers.now a.picks.now) o) o,
      fits-even (marks_in a.marks) _ (is_marked a.marks) (sym c.fits.ensures ∙ c.if-not-fits.false),
      c.if-picks-ne72.false,
    )

pub returns : goal.returns
unfolding sound
returns c =
    let a = c.args in
    tape-parts (lent a.live a.core a.sums.now a.registers.now a.picks.now) a.out.now a.bytes.now (piece_by a.marks a.samples.now)
    (lent_open a.live a.core a.sums.now a.registers.now a.picks.now c.if-picks-ne72.false _ c.parts_fit.ensures ∙ c.if-not-parts_fit.false)
    (sym c.fits.ensures ∙ c.if-not-fits.false) _ _ _ _ _ _ c.record_symbols.ensures
