-- `chart`: the table of the A points by place.
use Rattle.nearest.specs.Found.{chart_of}
use Rattle.nearest.proofs.chart.Goals as goal

pub returns : goal.returns
unfolding chart_of
returns c = c.table.ensures
