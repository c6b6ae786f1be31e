-- `fault`: the first point's fault, or the second's two places on.
use Rattle.std.proofs.Common.{rules}
use Rattle.piece_input.proofs.Places.{first-fault, second-fault, no-fault}
use Rattle.piece_input.proofs.fault.Goals as goal

pub returns-in-Some : goal.returns-in-Some
returns-in-Some c = first-fault c.args.first c.args.second _ c.in-Some.ensures

pub returns-in-Some-fault_at : goal.returns-in-Some-fault_at
returns-in-Some-fault_at c = second-fault c.args.first c.args.second _ (search rules) c.in-Some-fault_at.ensures

pub returns-in-None : goal.returns-in-None
returns-in-None c = no-fault c.args.first c.args.second (search rules) c.in-None.ensures
