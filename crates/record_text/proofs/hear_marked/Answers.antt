-- `hear_marked`: what the recorder's call gave, told.
use Rattle.record_text.proofs.hear_marked.Goals as goal

pub returns : goal.returns
returns c = c.tell.ensures _ _ _ _ c.hear_marked-t.ensures.always c.hear_marked-t.auto.bytes
