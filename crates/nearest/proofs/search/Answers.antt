-- `search`: a point that was heard is searched for; for a missing one all is 0.
use mathlib.Core.Path.{sym, ap, ◌∙◌}
use Rattle.nearest.specs.Found.{nearest_of}
use Rattle.nearest.proofs.Missing.{none_found}
use Rattle.nearest.proofs.search.Goals as goal

pub returns-in-Missing : goal.returns-in-Missing
returns-in-Missing c =
    let k = c.args.k in
    none_found k ∙ sym (ap (nearest_of k) c.in-Missing.is)
