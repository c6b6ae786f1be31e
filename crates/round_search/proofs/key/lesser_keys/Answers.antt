-- `lesser_keys`: label by label.
use Rattle.std.proofs.Common.{◌∙◌}
use Rattle.round_search.specs.Key.{lesser_keys}
use Rattle.round_search.proofs.Keys.{min-kept}
use Rattle.round_search.proofs.key.lesser_keys.Goals as goal

pub returns : goal.returns
unfolding lesser_keys
returns c =
    let x = c.args.x in
    let y = c.args.y in
    cc (c.min.ensures ∙ min-kept x.a y.a, c.min-2.ensures ∙ min-kept x.c y.c, c.min-3.ensures ∙ min-kept x.b y.b, c.min-4.ensures ∙ min-kept x.d y.d)
