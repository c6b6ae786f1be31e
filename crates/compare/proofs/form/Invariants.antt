-- `form`: as many looks are left as the loop may still take.
use Rattle.std.proofs.Common.{◌≡◌, ◌≤◌, ◌-◌, length}
use Rattle.compare.specs.Passing.{form_from}
use Rattle.compare.proofs.form.Given as goal

abbrev pub invariant-loop : goal.invariant-loop
invariant-loop l = (l.f.used ≤ length l.bytes) × (form_from (length l.bytes) l.initial.f l.bytes l.ends ≡ form_from (length l.bytes - l.counter) l.f l.bytes l.ends)
