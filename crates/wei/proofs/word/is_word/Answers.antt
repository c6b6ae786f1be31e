-- `word::is_word`: nothing is left above 3 + 2u bits exactly if the number is below 2 to that power.
use Prim.Native.Nat.{◌+◌}
use Rattle.wei.proofs.Words.{none_above}
use Rattle.wei.proofs.word.is_word.Goals as goal

pub returns : goal.returns
returns c = none_above c.args.word (3 + c.args.u + c.args.u)
