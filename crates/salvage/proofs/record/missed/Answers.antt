-- `missed`: the words that are left.
use Rattle.std.proofs.Common.{arith}
use Rattle.salvage.proofs.Takes.{left-length}
use Rattle.salvage.proofs.record.missed.Goals as goal

pub returns : goal.returns
returns c = omega (arith, left-length c.args.j.shown c.args.j.given c.args.due.now, c.min.ensures, c.saturating_sub.ensures)
