-- `hear_piece`: the piece to the receiver's parts.
use borrow.Author.Rules.{rules}
use Rattle.recorder.proofs.Ends.{tapes-lent}
use Rattle.recorder.proofs.hear_piece.Goals as goal

pub returns : goal.returns
returns c = tapes-lent c.args.rx _ _ _ _ _ _ _ _ _ (search rules) c.hear_piece_lent-taken.ensures
