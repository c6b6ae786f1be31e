-- `token::before`: by the place of the first such byte.
use Rattle.std.proofs.Common.{rules}
use Rattle.std.specs.Prelude.{nat_eq}
use Rattle.std.proofs.lemmas.Iterator.{YieldsList-from_slice}
use Rattle.std.proofs.lemmas.Iterator.Search.{position_from_yields_List}
use Rattle.text.proofs.Tokens.{cuts}
use borrow.Author.Tests.{tests}
use Rattle.text.proofs.token.before.Goals as goal

pub returns : goal.returns
returns c =
    let found = position_from_yields_List (λ x. nat_eq x c.args.b) _ _ c.position.result c.position.ensures.ran (YieldsList-from_slice c.args.s.now c.iter.ensures.rest) (λ x b q k. search (rules, tests)) in
    rw (c.unwrap_or.ensures, found) (cuts c.args.b c.args.s.now)
