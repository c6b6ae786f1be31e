-- `map_after`: no token more, or the text that follows is `square` or not.
use Rattle.std.proofs.Common.{sym, ◌∙◌}
use Rattle.text.proofs.Cut.{no_more}
use Rattle.line_fields.proofs.Named.{after-named}
use Rattle.line_fields.proofs.map_names.map_after.Goals as goal

pub returns-then-n-rest : goal.returns-then-n-rest
returns-then-n-rest c = rw (no_more c.requires c.if-n-rest.true)

pub returns-then-same : goal.returns-then-same
returns-then-same c = after-named c.requires c.if-n-rest.false (sym c.if-same.true ∙ c.same.ensures)

pub returns : goal.returns
returns c = after-named c.requires c.if-n-rest.false (sym c.if-same.false ∙ c.same.ensures)
