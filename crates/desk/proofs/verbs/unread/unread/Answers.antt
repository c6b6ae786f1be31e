-- `verbs::unread::unread`: the text alone.
use mathlib.Core.Path.{refl}
use native.Mathlib.Omega.{arith}
use Rattle.desk.specs.Desk.{acting}
use Rattle.desk.proofs.Desks.{does}
use Rattle.desk.proofs.verbs.unread.unread.Goals as goal

pub returns : goal.returns
unfolding acting
returns c = does refl refl refl (omega (arith, c.unread.ensures.next)) c.unread.ensures
