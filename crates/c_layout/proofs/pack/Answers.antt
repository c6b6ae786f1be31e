-- `pack`: eight words, each made of two numbers.
use Rattle.std.proofs.Common.{◌≡◌, refl, arith, add-one}
use Rattle.lists.specs.Tabled.{tabled}
use Rattle.lists.proofs.Filled.{tabled-more}
use Rattle.c_layout.specs.Halves.{pair_at, packed}
use Rattle.c_layout.proofs.Halves.{two-more, all-halves}
use Rattle.c_layout.proofs.pack.Goals as goal

pub loop-i-init : goal.loop-i-init
unfolding tabled
loop-i-init c = record { packed = refl; small = λ k h. absurd (omega arith) }

pub loop-i-preserved : goal.loop-i-preserved
loop-i-preserved c = record {
  packed = rw (c.loop-i.invariant.packed, c.paired.ensures.value, add-one c.loop-i.i) (tabled-more (pair_at c.args.numbers) c.loop-i.i _ (omega arith));
  small = two-more c.args.numbers c.loop-i.i c.loop-i.invariant.small c.paired.ensures.halves.0 c.paired.ensures.halves.1;
}

pub returns : goal.returns
unfolding tabled packed
returns c =
    let e : c.loop-i.i ≡ 8 = omega arith in
    (rw (c.loop-i.invariant.packed, e), all-halves c.args.numbers (omega arith) (λ k h. c.loop-i.invariant.small k (omega arith)))
