-- `ways::best_into`.
use Rattle.select.proofs.CodeSelect.{best}
use Rattle.select.proofs.ways.best_into.Goals as goal

pub returns : goal.returns
returns c =
    let a = c.args in
    best a.sums.now a.costs.now a.t c.requires.1 _ _ _ _ _ _ _ c.key_by.ensures c.key_by-2.ensures c.key_by-3.ensures c.key_by-4.ensures
    c.min-low.ensures c.min-high.ensures c.min.ensures
