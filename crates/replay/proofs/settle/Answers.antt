-- `settle`: the judge takes a record that has just become whole, and nothing else.
use Rattle.std.proofs.Common.{sym, ◌∙◌}
use Rattle.replay.proofs.Feeds.{settle-yes}
use Rattle.replay.proofs.settle.Goals as goal

pub returns : goal.returns
returns c =
    settle-yes _ _ _ _ _ (sym c.is_whole.ensures ∙ c.if-not-is_whole.false) c.take.ensures
