-- `ways::key_by`.
use Rattle.std.proofs.Common.{arith}
use Rattle.wei.proofs.States.{before-below, between-below}
use Rattle.select.specs.Select.{arrive}
use Rattle.select.specs.Ways.{key_by}
use Rattle.select.proofs.ways.key_by.Goals as goal

pub subset_between-c-requires : goal.subset_between-c-requires
subset_between-c-requires c = (rw c.before_state-s.ensures (before-below _ _ c.requires.1 c.requires.2), c.requires.1)

pub bounds-sums-s : goal.bounds-sums-s
bounds-sums-s c = omega (arith, c.before_state-s.ensures, before-below _ _ c.requires.1 c.requires.2)

pub bounds-costs-c : goal.bounds-costs-c
bounds-costs-c c = omega (arith, c.subset_between-c.ensures, between-below c.before_state-s.result c.args.t)

pub overflow_mul-result-2 : goal.overflow_mul-result-2
overflow_mul-result-2 c = record { fits = omega (arith, c.before_state-s.ensures, before-below _ _ c.requires.1 c.requires.2) }

pub overflow_add-result-2 : goal.overflow_add-result-2
overflow_add-result-2 c = record { fits = omega (arith, c.before_state-s.ensures, before-below _ _ c.requires.1 c.requires.2, c.subset_between-c.ensures, between-below c.before_state-s.result c.args.t) }

pub overflow_add-result-3 : goal.overflow_add-result-3
overflow_add-result-3 c =
    record {
      fits = omega (
        arith,
        c.requires.0.sums-most c.before_state-s.result,
        c.requires.0.costs-most c.subset_between-c.result,
        c.before_state-s.ensures,
        before-below _ _ c.requires.1 c.requires.2,
        c.subset_between-c.ensures,
        between-below c.before_state-s.result c.args.t,
      );
    }

pub returns : goal.returns
unfolding key_by arrive
returns c = rw (c.subset_between-c.ensures, c.before_state-s.ensures)
