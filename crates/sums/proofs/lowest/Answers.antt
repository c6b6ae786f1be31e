-- `lowest`: the least of the numbers so far.
use Rattle.std.proofs.Common.{◌≡◌, ℕ, ◌-◌, min, get_or, refl, ap, ◌∙◌, arith}
use Rattle.trellis.specs.Pick.{least}
use Rattle.sums.specs.Sums.{end_of, lowest}
use Rattle.sums.proofs.Least.{least-min}
use Rattle.sums.proofs.lowest.Goals as goal

pub loop-s-init : goal.loop-s-init
unfolding least
loop-s-init c = refl

pub loop-s-preserved : goal.loop-s-preserved
loop-s-preserved c =
    let f : ℕ → ℕ = λ i. get_or c.args.numbers.now i 0 in
    let s = c.loop-s.s in
    c.min-low.ensures ∙ ap (λ (x : ℕ). min x (f s)) c.loop-s.invariant ∙ least-min f s (least f (s - 1)) (omega arith) refl

pub returns : goal.returns
unfolding lowest end_of
returns c =
    let end : c.loop-s.s - 1 ≡ 15 = omega arith in
    let l = c.args.numbers.now in
    c.loop-s.invariant ∙ ap (λ (n : ℕ). get_or l (least (λ i. get_or l i 0) n) 0) end
