-- `point_of`: the point after so many turns.
use Rattle.std.proofs.Common.{◌≡◌}
use Rattle.points.specs.Points.{a_point}
use Rattle.points.specs.Turn.{turns}
use Rattle.points.proofs.point_of.Given as goal

-- after so many rounds the point is the A point turned so often
abbrev pub invariant-loop : goal.invariant-loop
invariant-loop l = l.p ≡ turns l.counter (a_point l.w)
