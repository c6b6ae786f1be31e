-- `follow`: symbol by symbol, the steps so far hold, and the sum is that of the card's sequence so far.
use mathlib.Core.Path.{sym, ◌∙◌}
use native.Mathlib.Omega.{arith}
use Rattle.card.specs.Promise.{card_in}
use Rattle.card.proofs.Tests.{has, long-is}
use Rattle.card.proofs.Following.{begun, goes, sum_fits, ends}
use Rattle.card.proofs.follow.Goals as goal

pub loop-i-init : goal.loop-i-init
loop-i-init c = begun _ _

pub take_step-requires-clause-has : goal.take_step-requires-clause-has
take_step-requires-clause-has c =
    has (card_in c.args.c) c.loop-i.i c.requires.1 (omega (arith, c.requires.2))

pub overflow_add-sum : goal.overflow_add-sum
overflow_add-sum c =
    let few = (long-is _ _ _ _ _ c.requires.1).few in
    let e = sym c.in-Some.is ∙ c.take_step.ensures in
    record { fits = omega (arith, sum_fits c.args.k (card_in c.args.c) c.loop-i.i c.loop-i.sum _ c.loop-i.invariant e (omega (arith, few, c.requires.2)), c.from-sum.ensures) }

pub loop-i-preserved : goal.loop-i-preserved
loop-i-preserved c =
    rw c.from-sum.ensures (goes c.args.k (card_in c.args.c) c.loop-i.i c.loop-i.sum _ c.loop-i.invariant (sym c.in-Some.is ∙ c.take_step.ensures))

pub none_below-requires : goal.none_below-requires
none_below-requires c =
    omega (arith, c.requires.2, (long-is _ _ _ _ _ c.requires.1).numbers-long)

pub returns : goal.returns
returns c =
    ends c.args.k (card_in c.args.c) c.args.n c.loop-i.i c.loop-i.sum _ c.loop-i.invariant (omega (arith, c.loop-i.auto.i-end)) c.none_below.ensures
