-- `list`: two numbers, the coordinates and the end of the line.
use Rattle.std.proofs.Common.{arith, ap}
use Rattle.page.proofs.Pages.{joined}
use Rattle.answers.specs.Answer.{list_line}
use Rattle.phrases.specs.Phrase.{decimal, said_wholes}
use Rattle.phrases.proofs.Phrases.{says-number, puts-as, coordinates-near}
use Rattle.answers.proofs.list.Goals as goal

pub end-requires : goal.end-requires
unfolding said_wholes
end-requires c = omega (arith, coordinates-near c.args.written.now c.said-p.ensures)

pub returns : goal.returns
unfolding list_line said_wholes
returns c =
    let near = coordinates-near c.args.written.now c.said-p.ensures in
    joined (omega arith)
    (joined (omega arith)
    (joined (omega arith) (joined (omega arith) (says-number c.put_number-p.ensures) c.put_byte-p.ensures)
    (puts-as (ap decimal c.from.ensures) (says-number c.put_number-p-2.ensures)))
    c.said-p.ensures)
    c.end.ensures
