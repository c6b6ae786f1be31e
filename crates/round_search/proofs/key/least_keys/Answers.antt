-- `least_keys`: the points of the table are small, and a step looks at one number more.
use Rattle.std.proofs.Common.{ℕ, ◌≡◌, ◌<◌, ap, ap₂, sym, subst, ◌∙◌, arith}
use Rattle.points.specs.declared.Point.{Point}
use Rattle.points.specs.Points.{a_point}
use Rattle.points.specs.Turn.{Small}
use Rattle.points.proofs.Rule.{small}
use Rattle.round_search.specs.Key.{keys_from, lesser_keys, least_keys}
use Rattle.round_search.proofs.Keys.{first-keys, next_keys}
use Rattle.round_search.proofs.key.least_keys.Goals as goal

-- a point of the table is small
small-read : (p : Point) (k : ℕ) → p ≡ a_point k → k < 256 → Small p
small-read p k e h = subst Small (sym e) (small k h)

pub keys_from-best-requires : goal.keys_from-best-requires
keys_from-best-requires c = (c.requires.1, small-read c.near_point.result 0 c.near_point.ensures (omega arith), omega arith)

pub loop-k-init : goal.loop-k-init
loop-k-init c =
    let h = c.args.h in
    c.keys_from-best.ensures ∙ ap (λ (p : Point). keys_from h p 0) c.near_point.ensures ∙ first-keys h

pub keys_from-requires : goal.keys_from-requires
keys_from-requires c =
    let k = c.loop-k.k in
    (c.requires.1, small-read c.near_point-in-loop-k.result k c.near_point-in-loop-k.ensures (omega arith), omega arith)

pub loop-k-preserved : goal.loop-k-preserved
loop-k-preserved c =
    let h = c.args.h in
    let k = c.loop-k.k in
    let here = c.keys_from.ensures ∙ ap (λ (p : Point). keys_from h p k) c.near_point-in-loop-k.ensures in
    c.lesser_keys-best.ensures ∙ ap₂ lesser_keys c.loop-k.invariant here ∙ next_keys h k (omega arith)

pub returns : goal.returns
returns c =
    let e : c.loop-k.k ≡ c.args.n = omega arith in
    c.loop-k.invariant ∙ ap (least_keys c.args.h) e
