-- `take`: a record by the verdict so far.
use Rattle.std.proofs.Common.{◌∙◌}
use Rattle.replay.proofs.Records.{took-agree, took-still}
use Rattle.replay.proofs.record.take.Goals as goal

pub returns-in-Agree : goal.returns-in-Agree
returns-in-Agree c = c.take_kind.ensures ∙ took-agree _ _ _ c.in-Agree.is

pub returns-in_default : goal.returns-in_default
returns-in_default c = took-still _ _ c.in_default.not-Agree
