-- `read`: an empty line, a comment, a token alone, or a verb.
use Rattle.std.proofs.Common.{rules, ap, ◌∙◌}
use Rattle.std.specs.Prelude.{unwrap_or}
use Rattle.requests.specs.declared.Request.TheVariants as request
use Rattle.requests.proofs.Readers.{read_back}
use Rattle.protocol.proofs.Requests.{empty-line, comment, line-alone, line-more}
use Rattle.protocol.proofs.read.Goals.{then-is_empty-via-then-is_empty, then-is_empty-via-else-is_empty+then-line-eq35}
use Rattle.protocol.proofs.read.Goals as goal

pub returns-then-is_empty : goal.returns-then-is_empty
returns-then-is_empty c =
    elim c.then-is_empty.branch [
      | then-is_empty-via-then-is_empty w ↦ empty-line _ _ (search rules)
      | then-is_empty-via-else-is_empty+then-line-eq35 w ↦ comment _ _ (search rules) w.if-line-eq35.true
    ]

pub returns-then-n-line : goal.returns-then-n-line
returns-then-n-line c = line-alone _ _ (search rules) c.if-line-eq35.false c.before-n.ensures c.if-n-line.true c.alone.ensures

pub returns : goal.returns
returns c =
    line-more _ _ (search rules) c.if-line-eq35.false c.before-n.ensures c.if-n-line.false (c.unwrap_or.ensures ∙ ap (λ o. unwrap_or o request.Unread) c.asked.ensures.value ∙ read_back _)
    (record { fills = c.asked.ensures.coordinates_after; puts = c.asked.ensures.words_after; marks = c.asked.ensures.marks_after })
