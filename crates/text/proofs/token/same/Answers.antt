-- `token::same`: the library's test goes byte by byte too.
use Rattle.std.proofs.Common.{◌∙◌}
use Rattle.text.proofs.Tokens.{same-pointwise}
use Rattle.text.proofs.token.same.Goals as goal

pub returns : goal.returns
returns c = c.eq.ensures ∙ same-pointwise c.args.a.now c.args.b.now
