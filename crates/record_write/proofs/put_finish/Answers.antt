-- `put_finish`: the finish, and then its words where the rest of the bytes is lent.
use Rattle.std.proofs.Common.{◌∙◌}
use Rattle.records.specs.Values.{finish_entry}
use Rattle.record_write.proofs.Fronts.{one_byte, then-words}
use Rattle.record_write.proofs.put_finish.Goals as goal

pub returns : goal.returns
returns c =
    then-words finish_entry c.args.words.now c.args.bytes.now _ _ 1 one_byte (c.put_end.ensures ∙ rw one_byte) c.put_words.ensures
