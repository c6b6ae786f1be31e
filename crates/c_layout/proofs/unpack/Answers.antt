-- `unpack`: sixteen numbers, two from each word.
use Rattle.std.proofs.Common.{◌≡◌, refl, arith}
use Rattle.lists.specs.Tabled.{tabled}
use Rattle.c_layout.specs.Halves.{unpacked}
use Rattle.c_layout.proofs.Halves.{two-filled}
use Rattle.c_layout.proofs.unpack.Goals as goal

pub loop-i-init : goal.loop-i-init
unfolding tabled
loop-i-init c = refl

pub loop-i-preserved : goal.loop-i-preserved
loop-i-preserved c = rw (c.loop-i.invariant, c.lower.ensures, c.upper.ensures) (two-filled c.args.words c.loop-i.i _ (omega arith))

pub returns : goal.returns
unfolding tabled unpacked
returns c = let e : c.loop-i.i ≡ 8 = omega arith in rw (c.loop-i.invariant, e)
