-- `reason`: with a place, or without.
use Rattle.std.proofs.Common.{arith, ap, ◌∙◌}
use Rattle.page.proofs.Pages.{joined}
use Rattle.phrases.specs.Phrase.{decimal}
use Rattle.phrases.proofs.Phrases.{says-number, puts-as, no_place, with-place}
use Rattle.phrases.proofs.reason.Goals as goal

pub returns-then-n-ne5 : goal.returns-then-n-ne5
returns-then-n-ne5 c =
    puts-as (ap decimal c.from.ensures ∙ no_place _ _ c.number-n.ensures c.if-n-ne5.true) (says-number c.put_number-p.ensures)

pub returns : goal.returns
returns c =
    puts-as (rw c.from.ensures (with-place _ _ c.number-n.ensures _ c.if-n-ne5.false (c.from-2.ensures ∙ c.place.ensures)))
    (joined (omega arith) (says-number c.put_number-p.ensures) c.place-2.ensures)
