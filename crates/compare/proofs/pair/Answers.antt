-- `pair`: what the two fronts tell, and how far it goes.
use Rattle.std.proofs.Common.{◌≡◌, ap, true}
use mathlib.Core.Logic.{inl, inr}
use Rattle.compare.specs.Passing.{takes}
use Rattle.compare.proofs.Bounds.{pair-halts, pair-moves, not_taken}
use Rattle.compare.proofs.pair.Goals as goal

pub returns-in-Same-clause-value : goal.returns-in-Same-clause-value
returns-in-Same-clause-value c =
    let t : takes c.judge-event.result ≡ true = elim c.in-Same.is [ inl h ↦ ap takes h | inr h ↦ ap takes h.1 ] in
    pair-moves c.args.p _ _ _ _ c.look-a.result c.look-b.result _ _ c.look-a.ensures.value c.look-b.ensures.value c.same-same.ensures c.judge-event.ensures t _ _ c.counted.ensures c.line_more.ensures

pub returns-in_default : goal.returns-in_default
returns-in_default c =
    let t = not_taken _ c.in_default.not-Same c.in_default.not-Said in
    record {
      value = pair-halts c.args.p _ _ _ _ c.look-a.result c.look-b.result _ _ c.look-a.ensures.value c.look-b.ensures.value c.same-same.ensures c.judge-event.ensures t;
      here_in_bounds = c.requires;
    }
