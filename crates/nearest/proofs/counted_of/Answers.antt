-- `counted_of`: the lesser of the distance and the cap.
use native.Mathlib.Omega.{arith}
use Rattle.trellis.specs.Measure.{counted}
use Rattle.nearest.proofs.counted_of.Goals as goal

pub returns : goal.returns
unfolding counted
returns c = omega (arith, c.min.ensures)
