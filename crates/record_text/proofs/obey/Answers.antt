-- `obey`: what the lists held before makes no difference.
use Rattle.line_reply.proofs.Named.{lists-long, as-named}
use Rattle.record_text.proofs.Notings.{noting-only, notes-same}
use Rattle.record_text.proofs.obey.Goals as goal

pub returns : goal.returns
returns c = notes-same (as-named _ (noting-only c.args.rx c.args.begun _) lists-long c.read-asked.ensures) c.note.ensures
