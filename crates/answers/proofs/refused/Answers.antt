-- `refused`: the number 5, the place, and the end of the line.
use Rattle.std.proofs.Common.{arith, ap}
use Rattle.page.proofs.Pages.{joined}
use Rattle.phrases.specs.Phrase.{place_text}
use Rattle.phrases.proofs.Phrases.{puts-as, decimal-short}
use Rattle.answers.proofs.refused.Goals as goal

pub end-requires : goal.end-requires
end-requires c = omega (arith, c.place-p.ensures.next, decimal-short c.from.result)

pub returns : goal.returns
returns c =
    joined (omega (arith, c.place-p.ensures.next, decimal-short c.from.result))
    (joined (omega arith) c.put_byte-p.ensures (puts-as (ap place_text c.from.ensures) c.place-p.ensures)) c.end.ensures
