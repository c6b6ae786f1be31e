-- `next`: two records were the same, so one pair less is left.
use Rattle.std.proofs.Common.{◌≡◌, ap, arith, true}
use Rattle.compare.specs.Passing.{is_same}
use Rattle.compare.proofs.Loops.{pass-goes}
use Rattle.compare.proofs.next.Goals as goal
use Rattle.compare.proofs.next.Goals.{in-Same, in_default}

pub loop-preserved : goal.loop-preserved
loop-preserved c =
    let s : is_same c.pair-now.result.event ≡ true = elim c.match-matches.branch [ in-Same w ↦ ap is_same w.in-Same.is | in_default w ↦ cc (w.matches-is, c.if-not-matches.false) ] in
    (c.pair-now.ensures.here_in_bounds.0, c.pair-now.ensures.here_in_bounds.1, pass-goes _ _ _ _ _ _ _ _ _ (omega arith) c.pair-now.ensures.value s c.loop.invariant.2)
