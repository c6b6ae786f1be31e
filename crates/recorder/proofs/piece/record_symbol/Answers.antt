-- `record_symbol`: no room for its own record, refused, or taken and recorded.
use Rattle.std.specs.Prelude.{Err}
use Rattle.machine.specs.Parts.{whole}
use Rattle.recorder.proofs.One.{Lends, step-short, step-refused, step-taken, small, words-space}
use Rattle.recorder.proofs.piece.record_symbol.Goals as goal

pub returns-then-bytes-size : goal.returns-then-bytes-size
returns-then-bytes-size c =
    let few = rw c.symbol_space-size.ensures at c.if-bytes-size.true in
    rw c.not_taken.ensures (step-short c.args.core _ _ _ c.args.out.now c.args.bytes.now _ (Err c.refusal-why.result) c.refusal-why.ensures few)

pub returns-then-h-eq0 : goal.returns-then-h-eq0
returns-then-h-eq0 c =
    let a = c.args in
    let lends : Lends (whole a.core a.sums.now a.registers.now a.picks.now) a.mark a.four.now a.out.now a.bytes.now =
    record {
      size = c.symbol_space-size.result;
      size_is = c.symbol_space-size.ensures;
      wide = c.if-bytes-size.false;
      m = c.min-room.result;
      m-is = c.min-room.ensures;
      asked = record { four = c.requires.2; heard = c.hear_symbols-h.result; sums = _; registers = _; picks = _; after = _; was = c.hear_symbols-h.ensures };
      kept = c.hear_symbols-h.auto.out;
    } in
    rw c.not_taken-then-h-eq0.ensures (step-refused _ _ _ _ _ lends c.if-h-eq0.true)

pub put_taken-requires : goal.put_taken-requires
put_taken-requires c =
    let a = c.args in
    let lends : Lends (whole a.core a.sums.now a.registers.now a.picks.now) a.mark a.four.now a.out.now a.bytes.now =
    record {
      size = c.symbol_space-size.result;
      size_is = c.symbol_space-size.ensures;
      wide = c.if-bytes-size.false;
      m = c.min-room.result;
      m-is = c.min-room.ensures;
      asked = record { four = c.requires.2; heard = c.hear_symbols-h.result; sums = _; registers = _; picks = _; after = _; was = c.hear_symbols-h.ensures };
      kept = c.hear_symbols-h.auto.out;
    } in
    (c.requires.2, small _ _ _ _ _ lends c.if-h-eq0.false, words-space _ _ _ _ _ lends c.if-h-eq0.false)

pub returns : goal.returns
returns c =
    let a = c.args in
    let lends : Lends (whole a.core a.sums.now a.registers.now a.picks.now) a.mark a.four.now a.out.now a.bytes.now =
    record {
      size = c.symbol_space-size.result;
      size_is = c.symbol_space-size.ensures;
      wide = c.if-bytes-size.false;
      m = c.min-room.result;
      m-is = c.min-room.ensures;
      asked = record { four = c.requires.2; heard = c.hear_symbols-h.result; sums = _; registers = _; picks = _; after = _; was = c.hear_symbols-h.ensures };
      kept = c.hear_symbols-h.auto.out;
    } in
    step-taken _ _ _ _ _ lends c.if-h-eq0.false _ c.put_taken.ensures
