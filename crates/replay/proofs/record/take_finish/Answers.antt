-- `take_finish`: a word that is due, or what the finish answered.
use Rattle.std.proofs.Common.{sym, ◌∙◌}
use Rattle.replay_judge.specs.Judging.{finished}
use Rattle.replay.proofs.Records.{missing, none_missing, finish-is}
use Rattle.replay.proofs.record.take_finish.Goals as goal

pub returns-in-Some : goal.returns-in-Some
unfolding finished
returns-in-Some c = missing _ _ _ _ _ _ _ (sym c.next_due.ensures ∙ c.in-Some.is) _ c.rule.ensures

pub returns : goal.returns
unfolding finished
returns c =
    none_missing c.args.j _ _ _ _ (sym c.next_due.ensures ∙ c.in_default.is) _ _
    (finish-is _ _ _ _ _ c.finish-a.result _ c.finish-a.ensures _ _ _ c.lay.ensures _ c.answer.ensures)
