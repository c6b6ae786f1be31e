-- `holds`: what is found of the ways so far.
use Rattle.std.proofs.Common.{◌≡◌, ◌/◌, ◌%◌}
use Rattle.card_sums.specs.Every.{every_below}
use Rattle.card_sums.specs.Rows.{way_holds}
use Rattle.card_sums.proofs.holds.Given as goal

-- all that was compared so far
abbrev pub invariant-loop-way : goal.invariant-loop-way
invariant-loop-way l = l.all ≡ every_below (λ k. way_holds l.numbers l.at l.costs (k / 4) (k % 4)) l.way
