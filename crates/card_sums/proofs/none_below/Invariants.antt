-- `none_below`: what is found of the numbers so far.
use Rattle.std.proofs.Common.{◌≡◌, leb}
use Rattle.card_sums.specs.Every.{every_below}
use Rattle.card_sums.specs.Rows.{number_at}
use Rattle.card_sums.proofs.none_below.Given as goal

-- all that was compared so far
abbrev pub invariant-loop-t : goal.invariant-loop-t
invariant-loop-t l = l.all ≡ every_below (λ k. leb l.sum (number_at l.numbers l.at k)) l.t
