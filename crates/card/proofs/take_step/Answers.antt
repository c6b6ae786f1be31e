-- `take_step`: what the tests that passed give to the calls after them.
use mathlib.Core.Path.{sym, ◌∙◌}
use Rattle.card_symbol.proofs.Tests.{valid_by}
use Rattle.card.proofs.Tests.{spots_in}
use Rattle.card.proofs.take_step.Goals as goal

pub weigh-weighed-requires : goal.weigh-weighed-requires
weigh-weighed-requires c =
    let (p, q) = spots_in c.pair_at-heard.result (sym c.in_range.ensures ∙ c.if-not-in_range.false) in
    (c.requires.chart_value.0, c.requires.chart_value.2, p, q)

pub far-requires : goal.far-requires
far-requires c =
    let (p, q) = spots_in c.pair_at-heard.result (sym c.in_range.ensures ∙ c.if-not-in_range.false) in
    let v = valid_by _ _ _ _ (sym c.carries.ensures ∙ c.if-not-carries.false) in
    (c.requires.chart_value.1, c.requires.chart_value.2, p, q, v)
