-- `keep`: the registers that have the new bit, and the numbers in their slot.
use Rattle.std.proofs.Common.{◌≡◌, ℕ, ◌+◌, ◌%◌, List, ◌++◌, get_or, set, drop, ap, ◌∙◌, refl, add-one, arith}
use Rattle.lists.specs.Tabled.{tabled}
use Rattle.lists.proofs.Filled.{tabled-more, fill-next}
use Rattle.picks.specs.Picks.{longer, longer_at, kept_in}
use Rattle.picks.proofs.keep.Goals as goal

pub loop-k-init : goal.loop-k-init
unfolding tabled
loop-k-init c = refl

pub loop-k-preserved : goal.loop-k-preserved
loop-k-preserved c =
    let a = c.args in
    let f = longer_at a.picks.now a.i3 in
    let was = ap (λ (l : List ℕ). get_or l c.loop-k.k 0) c.loop-k.invariant ∙ fill-next f c.loop-k.k a.picks.now in
    let y : c.longer_by.result ≡ longer (get_or c.loop-k.picks c.loop-k.k 0) (get_or a.i3 c.loop-k.k 0 % 2) = omega arith in
    let x : c.longer_by.result ≡ f c.loop-k.k = y ∙ ap (λ (r : ℕ). longer r (get_or a.i3 c.loop-k.k 0 % 2)) was in
    rw (c.loop-k.invariant, x, add-one c.loop-k.k) (tabled-more f c.loop-k.k a.picks.now (omega arith))

pub returns : goal.returns
unfolding kept_in
returns c =
    let a = c.args in
    let end : c.loop-k.k ≡ 8 = omega arith in
    ap (λ (l : List ℕ). set l (8 + a.slot) a.numbers) (c.loop-k.invariant ∙ ap (λ (n : ℕ). tabled (longer_at a.picks.now a.i3) n ++ drop n a.picks.now) end)
