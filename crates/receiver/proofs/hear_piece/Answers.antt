-- `hear_piece`: the piece to the receiver's parts.
use borrow.Author.Rules.{rules}
use Rattle.receiver.proofs.Doors.{hears-lent}
use Rattle.receiver.proofs.hear_piece.Goals as goal

pub returns : goal.returns
returns c = hears-lent c.args.rx _ _ _ _ _ _ _ (search rules) c.hear_piece_lent-taken.ensures
