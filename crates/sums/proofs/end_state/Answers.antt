-- `end_state`: the best of the states so far.
use Rattle.std.proofs.Common.{◌≡◌, ℕ, ◌-◌, get_or, refl, ap, ◌∙◌, arith}
use Rattle.trellis.specs.Pick.{least}
use Rattle.sums.specs.Sums.{end_of}
use Rattle.sums.proofs.Least.{least-less, least_kept}
use Rattle.sums.proofs.end_state.Goals as goal
use Rattle.sums.proofs.end_state.Goals.{then-sums-s, else-sums-s}

pub loop-s-init : goal.loop-s-init
unfolding least
loop-s-init c = (omega arith, refl)

pub loop-s-preserved : goal.loop-s-preserved
loop-s-preserved c =
    let f : ℕ → ℕ = λ i. get_or c.args.sums.now i 0 in
    let m = c.loop-s in
    elim c.if-sums-s.branch [
      | then-sums-s w ↦ (omega (arith, w.best-is), w.best-is ∙ least-less f m.s m.best (omega arith) m.invariant.1 w.if-sums-s.true)
      | else-sums-s w ↦ (omega (arith, w.best-is), w.best-is ∙ least_kept f m.s m.best (omega arith) m.invariant.1 w.if-sums-s.false)
    ]

pub returns : goal.returns
unfolding end_of
returns c =
    let end : c.loop-s.s - 1 ≡ 15 = omega arith in
    (c.loop-s.invariant.1 ∙ ap (least (λ i. get_or c.args.sums.now i 0)) end, omega arith)
