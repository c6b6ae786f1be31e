-- `coordinates_after`: no token more, or the list of those that follow.
use Rattle.std.proofs.Common.{◌∙◌}
use Rattle.text.proofs.Cut.{no_more, some_more}
use Rattle.requests.proofs.coordinates_after.Goals as goal

pub returns-then-n-rest : goal.returns-then-n-rest
returns-then-n-rest c = let e = no_more c.requires c.if-n-rest.true in record { value = rw e; list_after = rw e }

pub returns : goal.returns
returns c = let e = some_more c.requires c.if-n-rest.false in record { value = c.list.ensures.answer ∙ rw e; list_after = c.list.ensures.filled ∙ rw e }
