-- `lay`: the lists after an answer.
use Rattle.reasons.proofs.Apart.{err-done, err-refused}
use Rattle.replay.proofs.Records.{laid_done, laid-refused}
use Rattle.replay.proofs.record.lay.Goals as goal

pub returns-then-is_err : goal.returns-then-is_err
returns-then-is_err c = laid-refused _ _ _ _ _ (err-refused c.args.why c.is_err.result c.is_err.ensures.value c.if-is_err.true)

pub returns : goal.returns
returns c = laid_done _ _ _ _ _ (err-done c.args.why c.is_err.result c.is_err.ensures.value c.if-is_err.false)
