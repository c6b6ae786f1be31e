-- `label::labels`: a mask of two bits is a remainder by 4.
use Prim.Native.Nat.{◌+◌, ◌*◌}
use mathlib.Core.Path.{ap}
use lib.Bits.{and_mask}
use Rattle.wei.specs.Label.{second_label, pair_of}
use Rattle.wei.proofs.label.labels.Goals as goal

pub returns : goal.returns
unfolding second_label
returns c = ap (pair_of c.args.q) (and_mask (c.args.q + c.args.y0 + 2 * c.args.i1) 2)
