-- `take_kind`: a word is set against the one that is due.
use Rattle.replay.proofs.Records.{role-is, word-state}
use Rattle.replay.proofs.record.take_kind.Goals as goal

pub returns-in-Word : goal.returns-in-Word
returns-in-Word c =
    rw (role-is c.kind_of.ensures c.in-Word.is)
    (word-state _ _ _ _ _ _ _ _ _ _ c.number-g.ensures c.take_word.ensures)
