-- `hear`: what the recorder's call gave, told.
use Rattle.record_text.proofs.hear.Goals as goal

pub returns : goal.returns
returns c = c.tell.ensures _ _ _ _ c.hear-t.ensures.always c.hear-t.auto.bytes
