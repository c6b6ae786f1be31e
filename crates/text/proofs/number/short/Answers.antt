-- `number::short`: what is at most a number of 32 bits is one.
use Rattle.std.proofs.Common.{arith}
use Rattle.text.proofs.Digits.{got-most}
use Rattle.text.proofs.number.short.Goals as goal

pub overflow_cast-result : goal.overflow_cast-result
overflow_cast-result c =
    record { fits = omega (arith, got-most c.args.base c.from.result c.args.s.now c.in_ok-digits.ensures, c.from.ensures, c.ranges.most.fits) }
