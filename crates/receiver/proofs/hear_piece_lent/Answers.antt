-- `hear_piece_lent`: closed, uneven, or the symbols of the piece.
use mathlib.Core.Path.{◌≡◌, sym, subst, ◌∙◌}
use mathlib.Core.Bool.{Bool, true}
use Rattle.machine.specs.Machine.{sound}
use Rattle.machine.proofs.Sound.{sound-live}
use Rattle.piece_input.specs.Marks.{is_marked, marks_in, piece_by}
use Rattle.piece_input.proofs.Marks.{fits-even}
use Rattle.receiver.specs.Promise.{parts_of, lent_live}
use Rattle.receiver.proofs.Doors.{hear-closed, hear-uneven, hear-parts, lent-all, lent_open}
use Rattle.receiver.proofs.hear_piece_lent.Goals as goal

pub returns-then-not-lent_fit : goal.returns-then-not-lent_fit
returns-then-not-lent_fit c =
    let a = c.args in
    rw c.nothing_heard.ensures
    (hear-closed (parts_of (lent_live a.live a.picks.now) a.core a.sums.now a.registers.now a.picks.now) a.out.now (piece_by a.marks a.samples.now)
    (lent_open a.live a.core a.sums.now a.registers.now a.picks.now _ c.lent_fit.ensures ∙ c.if-not-lent_fit.true))

pub returns-then-not-fits : goal.returns-then-not-fits
returns-then-not-fits c =
    let a = c.args in
    rw c.nothing_heard-then-not-fits.ensures
    (hear-uneven (parts_of (lent_live a.live a.picks.now) a.core a.sums.now a.registers.now a.picks.now) a.out.now (piece_by a.marks a.samples.now)
    (lent_open a.live a.core a.sums.now a.registers.now a.picks.now _ c.lent_fit.ensures ∙ c.if-not-lent_fit.false) (sym c.fits.ensures ∙ c.if-not-fits.true))

pub hear_symbols-requires : goal.hear_symbols-requires
hear_symbols-requires c =
    let a = c.args in
    let rx = parts_of (lent_live a.live a.picks.now) a.core a.sums.now a.registers.now a.picks.now in
    let o = lent_open a.live a.core a.sums.now a.registers.now a.picks.now _ c.lent_fit.ensures ∙ c.if-not-lent_fit.false in
    let l = sound-live rx o in (
      subst (λ (b : Bool). sound (parts_of b a.core a.sums.now a.registers.now a.picks.now) ≡ true) l o,
      fits-even (marks_in a.marks) _ (is_marked a.marks) (sym c.fits.ensures ∙ c.if-not-fits.false),
      lent-all a.live a.picks.now l,
    )

pub returns : goal.returns
returns c =
    let a = c.args in
    hear-parts (lent_live a.live a.picks.now) a.core a.sums.now a.registers.now a.picks.now a.out.now (piece_by a.marks a.samples.now)
    (lent_open a.live a.core a.sums.now a.registers.now a.picks.now _ c.lent_fit.ensures ∙ c.if-not-lent_fit.false) (sym c.fits.ensures ∙ c.if-not-fits.false) _ _ _ _ _
    c.hear_symbols.ensures
