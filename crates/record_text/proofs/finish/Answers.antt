-- `finish`: what the recorder's call gave, told.
use Rattle.record_text.proofs.finish.Goals as goal

pub returns : goal.returns
returns c = c.tell.ensures _ _ _ _ c.finish-t.ensures.always c.finish-t.auto.bytes
