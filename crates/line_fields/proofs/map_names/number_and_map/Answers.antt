-- `number_and_map`: a number that is none, a map that is none, or both.
use Rattle.std.proofs.Common.{refl, ◌∙◌}
use Rattle.line_fields.proofs.Named.{numbered-read}
use Rattle.line_fields.proofs.map_names.number_and_map.Goals as goal

pub returns-in_err-number : goal.returns-in_err-number
returns-in_err-number c = c.from_residual.ensures ∙ numbered-read c.before-n.ensures c.in_err-number.ensures refl refl

pub returns : goal.returns
returns c = numbered-read c.before-n.ensures c.in_ok-number.ensures c.in_ok-map.ensures refl
