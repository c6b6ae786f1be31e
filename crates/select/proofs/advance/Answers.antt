-- `advance`.
use Rattle.std.proofs.Common.{ℕ, ◌/◌, sym, ap, ◌∙◌}
use Rattle.select.proofs.CodeSelect.{lowest-is, all-kept, all-followed, advanced}
use Rattle.select.proofs.advance.Goals as goal

pub sums_less-requires : goal.sums_less-requires
sums_less-requires c = ap (λ (n : ℕ). n / 128) c.lowest-low.ensures ∙ lowest-is c.select-keys.result

pub returns-then-all_reached : goal.returns-then-all_reached
returns-then-all_reached c =
    let a = c.args in
    let reached = sym c.all_reached.ensures ∙ c.if-all_reached.true in
    let low = ap (λ (n : ℕ). n / 128) c.lowest-low.ensures ∙ lowest-is c.select-keys.result in
    advanced a.sums.now a.costs.now c.select-keys.result c.select-keys.ensures c.sums_less.result c.steps_in.result
    (c.sums_less.ensures ∙ all-kept c.select-keys.result reached (c.lowest-low.result / 128) low) (c.steps_in.ensures ∙ all-followed c.select-keys.result reached)

pub kept-requires : goal.kept-requires
kept-requires c = ap (λ (n : ℕ). n / 128) c.lowest-low.ensures ∙ lowest-is c.select-keys.result

pub returns : goal.returns
returns c =
    let a = c.args in
    advanced a.sums.now a.costs.now c.select-keys.result c.select-keys.ensures c.kept.result c.followers.result c.kept.ensures
    c.followers.ensures
