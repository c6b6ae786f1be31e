-- `squared`: each step is one of the laws on the machine's squared difference.
use Rattle.round_search.proofs.Ints.{square-fits, square-cast, square-reads}
use Rattle.round_search.proofs.line.squared.Goals as goal

pub overflow_mul-result : goal.overflow_mul-result
overflow_mul-result c = square-fits c.args.r c.args.c c.requires.0 c.requires.1 c.from-d.result c.from-d.ensures

pub overflow_cast-result : goal.overflow_cast-result
overflow_cast-result c = square-cast c.args.r c.args.c c.requires.0 c.requires.1 c.from-d.result c.from-d.ensures

pub returns : goal.returns
returns c = square-reads c.args.r c.args.c c.requires.0 c.requires.1 c.from-d.result c.from-d.ensures
