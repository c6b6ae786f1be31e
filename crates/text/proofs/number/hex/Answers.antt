-- `number::hex`: by the length.
use Rattle.std.proofs.Common.{◌∙◌}
use Rattle.text.proofs.Digits.{eight, not_eight}
use Rattle.text.proofs.number.hex.Goals as goal

pub returns-then-s-ne8 : goal.returns-then-s-ne8
returns-then-s-ne8 c = not_eight _ c.if-s-ne8.true

pub returns : goal.returns
returns c = c.short.ensures ∙ eight _ c.if-s-ne8.false
