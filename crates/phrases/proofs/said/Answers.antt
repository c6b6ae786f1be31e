-- `said`: a colon and the row of them, if there are any.
use Rattle.std.proofs.Common.{rules, arith}
use Rattle.page.proofs.Pages.{joined}
use Rattle.phrases.proofs.Phrases.{puts-as, nothing_put, some-said, none_said}
use Rattle.phrases.proofs.said.Goals as goal

pub returns-then-is_empty : goal.returns-then-is_empty
returns-then-is_empty g c = puts-as (none_said g.N.Number.text c.args.written.now (search rules)) (nothing_put _ _)

pub returns : goal.returns
returns g c =
    puts-as (some-said g.N.Number.text c.args.written.now (search rules)) (joined (omega arith) c.put_text-p.ensures c.row.ensures)
