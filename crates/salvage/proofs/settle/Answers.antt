-- `settle`: a record that has just become whole is taken, and nothing else.
use Rattle.std.proofs.Common.{sym, ◌∙◌}
use Rattle.salvage.proofs.Feeds.{settles-yes}
use Rattle.salvage.proofs.settle.Goals as goal

pub returns : goal.returns
returns c = settles-yes _ _ c.args.frame _ (sym c.is_whole.ensures ∙ c.if-not-is_whole.false) c.take.ensures
