-- `line`: the line is within its buffer, and what is noted is that of its bytes.
use Rattle.record_text.proofs.Notings.{long-noted, line-noted, notes-same}
use Rattle.record_text.proofs.line.Goals as goal

pub returns-then-part : goal.returns-then-part
returns-then-part c = λ s g. notes-same (long-noted g c.args.rx c.args.begun _ c.if-part.true) c.unread.ensures

pub returns : goal.returns
returns c = λ s g. notes-same (line-noted g c.args.rx c.args.begun _ c.if-part.false) c.obey.ensures
