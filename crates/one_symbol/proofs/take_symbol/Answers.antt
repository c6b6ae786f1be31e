-- `take_symbol`: one law for each outcome.
use Rattle.std.proofs.Common.{refl, arith}
use Rattle.nearest.specs.Found.{heard_as}
use Rattle.one_symbol.proofs.CodeTaken.{full, short, done, few, state-below}
use Rattle.one_symbol.proofs.take_symbol.Goals as goal

pub overflow_sub-kept : goal.overflow_sub-kept
overflow_sub-kept c =
    let a = c.args in
    omega (arith, few a.core a.sums.now a.registers.now a.picks.now (heard_as a.first a.second) a.out.now c.look_ahead-o.result c.look_ahead-o.ensures)

pub returns-then-core-kept : goal.returns-then-core-kept
returns-then-core-kept c =
    let a = c.args in
    full a.core a.sums.now a.registers.now a.picks.now (heard_as a.first a.second) a.out.now c.look_ahead-o.result c.look_ahead-o.ensures
    c.refused.result c.refused.ensures c.if-core-kept.true

pub returns-then-out-n : goal.returns-then-out-n
returns-then-out-n c =
    let a = c.args in
    short a.core a.sums.now a.registers.now a.picks.now (heard_as a.first a.second) a.out.now c.look_ahead-o.result c.look_ahead-o.ensures
    c.if-core-kept.false c.refused-then-out-n.result c.refused-then-out-n.ensures c.if-out-n.true

pub write_words-turn-requires : goal.write_words-turn-requires
write_words-turn-requires c =
    let p = c.requires in
    let a = c.args in
    let y = heard_as a.first a.second in (
      p.ready.0.core-fits,
      state-below a.core a.sums.now a.registers.now a.picks.now y a.out.now c.look_ahead-o.result c.look_ahead-o.ensures,
      few a.core a.sums.now a.registers.now a.picks.now y a.out.now c.look_ahead-o.result c.look_ahead-o.ensures,
      c.if-out-n.false,
      p.ready.1,
    )

pub returns : goal.returns
returns c =
    let a = c.args in
    done a.core a.sums.now a.registers.now a.picks.now (heard_as a.first a.second) a.out.now c.look_ahead-o.result c.look_ahead-o.ensures
    c.if-core-kept.false _ _ _ _ _ _ c.if-out-n.false c.write_words-turn.ensures.value c.write_words-turn.ensures.out_after refl
    c.shift.ensures c.keep.ensures c.moved_on.ensures
