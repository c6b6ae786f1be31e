-- `verbs::sample::float_of`: by the laws of Floats.
use Rattle.std.proofs.Common.{arith}
use Rattle.samples.proofs.Laws.{heard-pattern}
use Rattle.desk.proofs.Floats.{no_nan, nan-heard}
use Rattle.desk.proofs.verbs.sample.float_of.Goals as goal

pub float_from_bits-result : goal.float_from_bits-result
float_from_bits-result c = no_nan 2139095040 (omega arith)

pub float_from_bits-result-else-bits-gt2139095040 : goal.float_from_bits-result-else-bits-gt2139095040
float_from_bits-result-else-bits-gt2139095040 c = no_nan c.args.bits (omega arith)

pub returns-then-bits-gt2139095040 : goal.returns-then-bits-gt2139095040
returns-then-bits-gt2139095040 c = nan-heard c.args.bits (omega arith)

pub returns-else-bits-gt2139095040 : goal.returns-else-bits-gt2139095040
returns-else-bits-gt2139095040 c = heard-pattern c.args.bits
