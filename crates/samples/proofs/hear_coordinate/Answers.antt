-- `hear_coordinate` meets its contract: the three things that are left are the facts of proofs/Range.antt.
use mathlib.Core.Path.{sym, ap, ◌∙◌, subst}
use mathlib.Core.Logic.{⊎_elim}
use mathlib.Core.Bool.{false≢true}
use lib.Dec.{T}
use lib.Ieee.{to_signed}
use lib.Ieee.Casts.{to_signed_in}
use mir.Syntax.{w32}
use mir.ValLaws.{to_z-of_z}
use Rattle.samples.specs.Given.{done}
use Rattle.samples.proofs.Outcome.{converted}
use Rattle.samples.proofs.Range.{passed, failed}
use Rattle.samples.proofs.hear_coordinate.Goals as goal

pub float_to_int-result : goal.float_to_int-result
float_to_int-result c = (passed c.args.v (subst T (sym c.well_formed.0.1) tt) c.if-whole.true c.if-whole-2.true).0

pub returns-then-whole-2 : goal.returns-then-whole-2
returns-then-whole-2 c =
    let v = c.args.v in
    ap done (to_z-of_z w32 (to_signed 31 (converted v)) (record { sfits = to_signed_in 31 (converted v) }))
    ∙ (passed v (subst T (sym c.well_formed.0.1) tt) c.if-whole.true c.if-whole-2.true).1

pub returns-else-whole : goal.returns-else-whole
returns-else-whole c =
    let v = c.args.v in
    failed v (subst T (sym c.well_formed.0.1) tt) (λ p q. ⊎_elim (λ w. false≢true (sym w.if-whole-2.false ∙ q)) (λ w. false≢true (sym w.if-whole.false ∙ p)) c.else-whole.branch-raw)
