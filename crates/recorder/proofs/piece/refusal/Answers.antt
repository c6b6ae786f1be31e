-- `refusal`: a copy of the receiver hears the symbol with no place for a word.
use Rattle.std.proofs.Common.{ap, subst, refl, ℕ, List, []}
use Rattle.std.specs.Prelude.{Err}
use Rattle.machine.specs.Parts.{whole}
use Rattle.reasons.specs.declared.Why.TheVariants.{NoRoom}
use Rattle.reasons.specs.Reason.{is_done}
use Rattle.record_write.specs.Front.{symbol_in}
use Rattle.recorder.specs.Lent.{Refuses}
use Rattle.recorder.proofs.One.{Asked, refuses-eight, refuses-so}
use Rattle.recorder.proofs.piece.refusal.Goals as goal

pub returns-in-Ok : goal.returns-in-Ok
returns-in-Ok c =
    let a = c.args in
    let asked : Asked _ a.mark a.four.now [] =
    record { four = c.requires.2; heard = c.hear_symbols-h.result; sums = _; registers = _; picks = _; after = _; was = c.hear_symbols-h.ensures } in
    subst (λ (l : List ℕ). Refuses (whole a.core a.sums.now a.registers.now l) (symbol_in a.mark a.four.now) (Err NoRoom)) c.copy_from_slice.ensures.after
    (refuses-eight _ _ _ _ asked refl (ap is_done c.in-Ok.is))

pub returns-in-Err : goal.returns-in-Err
returns-in-Err c =
    let a = c.args in
    let asked : Asked _ a.mark a.four.now [] =
    record { four = c.requires.2; heard = c.hear_symbols-h.result; sums = _; registers = _; picks = _; after = _; was = c.hear_symbols-h.ensures } in
    subst (λ (l : List ℕ). Refuses (whole a.core a.sums.now a.registers.now l) (symbol_in a.mark a.four.now) (Err c.in-Err.why)) c.copy_from_slice.ensures.after
    (refuses-so _ _ _ _ asked refl c.in-Err.why c.in-Err.is)
