-- `run`: what the receiver answered.
use Rattle.salvage.proofs.Takes.{ran-is}
use Rattle.salvage.proofs.record.run.Goals as goal

pub returns : goal.returns
returns c =
    ran-is _ _ _ _ _ _ _ _ _ _ _ _ _ _ c.waiting.ensures c.take-judge.ensures _ _ _ _ c.missed.ensures c.fed_on-added.ensures c.is_agreed-writes.ensures c.more_kept.ensures
