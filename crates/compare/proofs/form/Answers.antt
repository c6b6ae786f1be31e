-- `form`: a record was passed, so one look less is left.
use Rattle.std.proofs.Common.{◌≡◌, ap, arith, true}
use Rattle.compare.specs.Passing.{is_record}
use Rattle.compare.proofs.Loops.{form-goes}
use Rattle.compare.proofs.form.Goals as goal
use Rattle.compare.proofs.form.Goals.{in-Record, in_default}

pub loop-preserved : goal.loop-preserved
loop-preserved c =
    let r : is_record c.form_step-f.result.sign ≡ true = elim c.match-matches.branch [ in-Record w ↦ ap is_record w.in-Record.is | in_default w ↦ cc (w.matches-is, c.if-not-matches.false) ] in
    (c.form_step-f.ensures.1, form-goes _ _ _ _ _ _ _ (omega arith) c.form_step-f.ensures.0 r c.loop.invariant.1)
