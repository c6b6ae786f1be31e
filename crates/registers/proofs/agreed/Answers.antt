-- `agreed`: three bits to an age.
use Rattle.std.proofs.Common.{ℕ, ◌+◌, ◌-◌, ◌/◌, ◌≤◌, ap, ◌∙◌, arith}
use Rattle.registers.proofs.Count.{reach_few, agreed-is}
use Rattle.registers.proofs.agreed.Goals as goal

few : (c : goal.After-reach-up) → (c.reach-up.result + 2) / 3 ≤ c.args.pending
few c = let a = c.args in rw c.reach-up.ensures (reach_few a.registers.now a.steps.now a.pending c.requires.0)

pub overflow_add-result : goal.overflow_add-result
overflow_add-result c = record { fits = omega (arith, few c, c.requires.0) }

pub overflow_sub-result : goal.overflow_sub-result
overflow_sub-result c = few c

pub returns : goal.returns
returns c =
    let a = c.args in
    ap (λ (w : ℕ). a.pending - (w + 2) / 3) c.reach-up.ensures
    ∙ agreed-is a.registers.now a.steps.now a.pending c.requires.0 c.told-steps (reach_few a.registers.now a.steps.now a.pending c.requires.0)
