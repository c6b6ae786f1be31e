-- The loop's steps are turns.
use Rattle.std.proofs.Common.{ℕ, ◌≡◌, sym, subst, ap, ◌∙◌, arith}
use Rattle.points.specs.Points.{a_point}
use Rattle.points.specs.Turn.{turns, point_of, Small}
use Rattle.points.proofs.Turns.{small-turns}
use Rattle.points.proofs.point_of.Goals as goal

pub quarter_turn-p-requires : goal.quarter_turn-p-requires
quarter_turn-p-requires c = subst Small (sym c.loop.invariant) (small-turns c.loop.counter c.args.w (omega arith))

pub returns : goal.returns
unfolding point_of
returns c = let e : c.loop.counter ≡ c.args.l = omega arith in c.loop.invariant ∙ ap (λ (k : ℕ). turns k (a_point c.args.w)) e
