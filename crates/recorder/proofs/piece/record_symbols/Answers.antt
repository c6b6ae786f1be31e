-- `record_symbols`: the loop begins, goes on, stops at a refused symbol, or comes to the end (proofs/Going).
use Rattle.std.proofs.Common.{◌∙◌}
use Rattle.reasons.proofs.Apart.{err-done, err-refused}
use Rattle.recorder.proofs.Going.{Turn, start, end, go_on, stop}
use Rattle.recorder.proofs.piece.record_symbols.Goals as goal

pub loop-taken-init : goal.loop-taken-init
loop-taken-init c = start _ c.requires.1 c.requires.0 c.requires.2

pub returns-then-is_err : goal.returns-then-is_err
returns-then-is_err c =
    let t = c.record_symbol-t in
    let turn : Turn _ _ =
    record {
      going = c.loop-taken.invariant;
      more = c.loop-taken-test.true;
      mark = c.mark_at-mark.result;
      mark-is = c.mark_at-mark.ensures;
      step = t.result;
      sums = _;
      registers = _;
      picks = _;
      ys = _;
      zs = _;
      is = t.ensures;
      kept = t.auto.out;
      kept-bytes = t.auto.bytes;
    } in
    stop _ _ turn (err-refused t.result.why c.is_err.result c.is_err.ensures.value c.if-is_err.true)

pub loop-taken-preserved : goal.loop-taken-preserved
loop-taken-preserved c =
    let t = c.record_symbol-t in
    let turn : Turn _ _ =
    record {
      going = c.loop-taken.invariant;
      more = c.loop-taken-test.true;
      mark = c.mark_at-mark.result;
      mark-is = c.mark_at-mark.ensures;
      step = t.result;
      sums = _;
      registers = _;
      picks = _;
      ys = _;
      zs = _;
      is = t.ensures;
      kept = t.auto.out;
      kept-bytes = t.auto.bytes;
    } in
    go_on _ _ turn (err-done t.result.why c.is_err.result c.is_err.ensures.value c.if-is_err.false) (t.auto.picks ∙ c.loop-taken.invariant.picks)

pub returns : goal.returns
returns c =
    let l = c.loop-taken in
    end _ l.core l.sums l.registers l.picks l.out l.bytes _ _ _ l.invariant c.loop-taken-test.false
