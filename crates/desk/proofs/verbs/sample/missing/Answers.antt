-- `verbs::sample::missing`: the text alone.
use mathlib.Core.Path.{refl}
use native.Mathlib.Omega.{arith}
use Rattle.desk.specs.Desk.{acting}
use Rattle.desk.proofs.Desks.{does}
use Rattle.desk.proofs.verbs.sample.missing.Goals as goal

pub returns : goal.returns
unfolding acting
returns c = let put = c.answer.ensures in does refl refl refl (omega (arith, put.next)) put
