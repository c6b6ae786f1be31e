-- `word::pack`: five parts that do not overlap are or-ed together.
use Rattle.wei.proofs.Words.{joined}
use Rattle.wei.proofs.word.pack.Goals as goal

pub returns : goal.returns
returns c = joined c.args.u c.args.p c.requires.0 c.requires.1
