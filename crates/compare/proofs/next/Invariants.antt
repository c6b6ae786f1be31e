-- `next`: as many pairs are left as the loop may still take.
use Rattle.std.proofs.Common.{◌≡◌, ◌≤◌, ◌-◌, length}
use Rattle.compare.specs.Passing.{pass_from}
use Rattle.compare.proofs.next.Given as goal

abbrev pub invariant-loop : goal.invariant-loop
invariant-loop l =
    (l.now.here ≤ length l.xs) × (l.now.there ≤ length l.ys)
    × (pass_from (length l.xs) l.initial.now l.xs l.ys l.ends l.closes ≡ pass_from (length l.xs - l.counter) l.now l.xs l.ys l.ends l.closes)
