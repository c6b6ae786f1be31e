-- `parted`.
use Rattle.std.proofs.Common.{ℕ, ◌-◌, ap, ◌∙◌, arith}
use lib.Count.{count_leading_zeros}
use Rattle.registers.specs.Registers.{lowest, parted_of}
use Rattle.registers.proofs.parted.Goals as goal

pub returns : goal.returns
unfolding parted_of
returns c = (ap (λ (d : ℕ). 64 - count_leading_zeros 64 d) (c.lowest_of.ensures ∙ ap (λ (d : ℕ). lowest d c.args.n) c.apart.ensures), omega arith)
