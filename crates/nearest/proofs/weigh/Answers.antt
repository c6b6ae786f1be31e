-- `weigh`: the two searches give what the choice of types asks, and its rows are those of the theory's choices.
use mathlib.Core.Path.{sym, subst₂}
use Rattle.subset_types.specs.Types.{Summable}
use Rattle.nearest.specs.declared.Nearest.{Nearest}
use Rattle.nearest.proofs.Weighing.{summable, weighed}
use Rattle.nearest.proofs.weigh.Goals as goal

pub nearer_types-requires : goal.nearer_types-requires
nearer_types-requires c =
    let a = c.search-a in
    let b = c.search-b in
    subst₂ (λ (m n : Nearest). Summable m.counted n.counted) (sym a.ensures) (sym b.ensures) (summable c.args.k c.args.first c.args.second)

pub returns : goal.returns
returns c = weighed c.args.k c.args.first c.args.second _ _ _ c.search-a.ensures c.search-b.ensures c.nearer_types.ensures
