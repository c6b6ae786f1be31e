-- `put_taken`: the symbol, and then its words where the rest of the bytes is lent.
use Rattle.std.proofs.Common.{sym, ◌∙◌}
use Rattle.record_write.specs.Front.{symbol_in, symbol_record}
use Rattle.record_write.proofs.Fronts.{then-words}
use Rattle.record_write.proofs.put_taken.Goals as goal

pub returns : goal.returns
returns c =
    let size = c.symbol_space-size.ensures in
    then-words (symbol_record (symbol_in c.args.mark c.args.four.now)) c.args.words.now c.args.bytes.now _ _ _ (sym size)
    (c.put_record.ensures ∙ rw size) c.put_words.ensures
