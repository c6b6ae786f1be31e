-- `sums_less`: the table of what each place was given.
use Rattle.std.proofs.Common.{ℕ, ◌-◌, ◌/◌, ◌≤◌, ◌<◌, get_or, ◌∙◌, rules}
use Rattle.lists.proofs.Made.{made, serves}
use Rattle.select.proofs.CodeSelect.{low_fits}
use Rattle.select.proofs.Lists.{sixteen-made}
use Rattle.select.proofs.sums_less.Goals as goal

pub from_fn-requires : goal.from_fn-requires
from_fn-requires c =
    let fits : (s : ℕ) → s < 16 → c.args.low ≤ get_or c.args.keys.now s 0 / 128 = λ s h. low_fits c.args.keys.now s h c.args.low c.requires in
    (search rules, serves (λ s q k. search rules) (λ s h. let low = fits s h in search rules))

pub returns : goal.returns
returns c =
    let f : ℕ → ℕ = λ s. get_or c.args.keys.now s 0 / 128 - c.args.low in
    made _ _ f 16 (λ s y q h k. search rules) _ c.from_fn.ensures.items ∙ sixteen-made f
