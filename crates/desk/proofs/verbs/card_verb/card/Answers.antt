-- `verbs::card_verb::card`: the text alone.
use mathlib.Core.Path.{refl}
use native.Mathlib.Omega.{arith}
use Rattle.answers.proofs.Answers.{card-near}
use Rattle.desk.specs.Desk.{acting}
use Rattle.desk.proofs.Desks.{does}
use Rattle.desk.proofs.verbs.card_verb.card.Goals as goal

pub returns : goal.returns
unfolding acting
returns c = let put = c.card.ensures in does refl refl refl (omega (arith, card-near c.args.accepted put)) put
