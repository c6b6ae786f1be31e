-- `starts_at_zero`: what is found of the numbers so far.
use Rattle.std.proofs.Common.{◌≡◌, eqb, get_or}
use Rattle.card_sums.specs.Every.{every_below}
use Rattle.card_sums.proofs.starts_at_zero.Given as goal

-- all that was compared so far
abbrev pub invariant-loop-s : goal.invariant-loop-s
invariant-loop-s l = l.all ≡ every_below (λ k. eqb (get_or l.numbers k 0) 0) l.s
