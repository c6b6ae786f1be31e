-- `put_text`: after some turns the page has the first bytes of the text.
use mathlib.Core.Path.{◌≡◌}
use lib.ListN.{length}
use lib.Seq.{paste}
use Rattle.page.proofs.put_text.Given as goal

abbrev pub invariant-loop-i : goal.invariant-loop-i
invariant-loop-i l = (length l.page ≡ length l.initial.page) × (l.page ≡ paste l.initial.page l.at l.text l.i)
