-- `obey`: what the lists held before makes no difference.
use Rattle.line_reply.proofs.Named.{lists-long, as-named, acting-only, obeyed}
use Rattle.line_reply.proofs.obey.Goals as goal

pub returns : goal.returns
returns c = obeyed (as-named _ (acting-only _) lists-long c.read-asked.ensures) c.act.ensures
