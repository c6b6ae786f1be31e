-- `type_sum`: both labels are below 4.
use mathlib.Core.Path.{ap}
use native.Mathlib.Omega.{arith}
use Rattle.wei.specs.declared.label.LabelPair.{LabelPair}
use Rattle.wei.specs.Label.{second_label}
use Rattle.subset_types.specs.Types.{sum_of}
use Rattle.subset_types.proofs.type_sum.Goals as goal

pub bounds-d2-l : goal.bounds-d2-l
unfolding second_label
bounds-d2-l c = omega (arith, ap (λ (l : LabelPair). l.second) c.labels-l.ensures)

pub returns : goal.returns
unfolding sum_of
returns c = cc (ap (λ (l : LabelPair). l.first) c.labels-l.ensures, ap (λ (l : LabelPair). l.second) c.labels-l.ensures)
