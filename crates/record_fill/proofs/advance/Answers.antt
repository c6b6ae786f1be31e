-- `advance`: the rest of a body, or one byte.
use Rattle.std.proofs.Common.{sym, ◌∙◌}
use Rattle.record_fill.proofs.Gathers.{advance-one, advance-body}
use Rattle.record_fill.proofs.advance.Goals as goal

pub returns-then-is_inside : goal.returns-then-is_inside
returns-then-is_inside c =
    advance-body _ _ _ _ _ c.requires (sym c.is_inside.ensures ∙ c.if-is_inside.true) c.grow.ensures.0 c.grow.ensures.1

pub returns : goal.returns
returns c = advance-one _ _ _ _ c.requires (sym c.is_inside.ensures ∙ c.if-is_inside.false) c.push.ensures
