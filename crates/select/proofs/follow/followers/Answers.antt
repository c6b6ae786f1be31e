-- `follow::followers`: the table of what each place was given.
use Rattle.std.proofs.Common.{◌∙◌, rules}
use Rattle.lists.proofs.Made.{made}
use Rattle.select.specs.Ways.{sums_in, steps_in, followed_step}
use Rattle.select.proofs.CodeSelect.{follows}
use Rattle.select.proofs.Lists.{sixteen-made}
use Rattle.select.proofs.follow.followers.Goals as goal

pub returns : goal.returns
returns c =
    let k = c.args.keys.now in
    let f = followed_step (sums_in k) (steps_in k) in
    made _ _ f 16 (λ s y q h r. (follows k s h _ y c.first_live-head.ensures.0 c.first_live-head.ensures.1 (search rules), search rules)) _ c.from_fn.ensures.items ∙ sixteen-made f
