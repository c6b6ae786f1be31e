-- `answer`: a record that the receiver refused, and one that it took.
use Rattle.reasons.proofs.Apart.{err-done, err-refused}
use Rattle.replay_judge.proofs.Dues.{answer-refused, answer-took}
use Rattle.replay_judge.proofs.answer.Goals as goal

pub returns-then-is_err : goal.returns-then-is_err
returns-then-is_err c =
    answer-refused _ _ _ _ _ _ _ (err-refused c.args.why c.is_err.result c.is_err.ensures.value c.if-is_err.true) c.number.ensures c.rule.ensures

pub returns : goal.returns
returns c = answer-took _ _ _ _ _ _ (err-done c.args.why c.is_err.result c.is_err.ensures.value c.if-is_err.false) c.counted.ensures
