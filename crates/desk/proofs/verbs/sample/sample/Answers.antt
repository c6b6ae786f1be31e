-- `verbs::sample::sample`: the text alone.
use mathlib.Core.Path.{refl}
use native.Mathlib.Omega.{arith}
use Rattle.answers.proofs.Answers.{sample-near}
use Rattle.desk.specs.Desk.{acting}
use Rattle.desk.proofs.Desks.{does, sample-text}
use Rattle.desk.proofs.verbs.sample.sample.Goals as goal

pub returns : goal.returns
unfolding acting
returns c =
    let put = c.answer.ensures in
    let text = sample-text _ _ _ _ c.float_of.ensures c.float_of-2.ensures in
    does refl refl text (omega (arith, sample-near _ put)) put
