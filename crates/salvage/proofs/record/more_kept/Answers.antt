-- `more_kept`: no kind has a long body.
use Rattle.std.proofs.Common.{arith}
use Rattle.records.proofs.Steps.{size_fits}
use Rattle.salvage.proofs.record.more_kept.Goals as goal

pub overflow_add-kind_of : goal.overflow_add-kind_of
overflow_add-kind_of c = rw c.kind_of.ensures (omega (arith, size_fits c.args.k))
