-- `put_end`: one store.
use Rattle.records.specs.Values.{finish_entry, bytes_of}
use Rattle.std.proofs.Common.{[], ◌∷◌}
use Rattle.record_write.proofs.Fronts.{fronted}
use Rattle.record_write.proofs.put_end.Goals as goal

pub returns : goal.returns
unfolding bytes_of
returns c = fronted (finish_entry ∷ []) c.args.bytes.now c.requires
