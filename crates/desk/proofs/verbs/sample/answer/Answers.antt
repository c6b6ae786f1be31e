-- `verbs::sample::answer`: two numbers, or the place at fault.
use Rattle.std.proofs.Common.{rules, Ok, ap, ◌∙◌}
use mir.Syntax.{w32}
use mir.Val.{SFits}
use Rattle.answers.specs.Answer.{sample_line}
use Rattle.phrases.proofs.Phrases.{puts-as}
use Rattle.answers.proofs.Answers.{pair-back}
use Rattle.desk.proofs.Desks.{answer-text}
use Rattle.desk.proofs.verbs.sample.answer.Goals as goal

pub returns-in-Ok-Some : goal.returns-in-Ok-Some
unfolding sample_line
returns-in-Ok-Some c =
    let h = c.in-Ok-Some.heard in
    let x : SFits w32 h.x = search rules in
    let y : SFits w32 h.y = search rules in
    puts-as (pair-back h.x h.y x y ∙ answer-text (c.in-Ok-Some.is ∙ ap Ok c.in-Ok-Some.field-0-is) c.hear_sampled.ensures) c.pair.ensures

pub returns-in-Err : goal.returns-in-Err
unfolding sample_line
returns-in-Err c = puts-as (rw c.place.ensures (answer-text c.in-Err.is c.hear_sampled.ensures)) c.refused.ensures
