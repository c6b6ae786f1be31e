-- `put_words`: the records of the words so far stand in front, and all else is as it was.
use Rattle.std.proofs.Common.{◌≡◌, ◌*◌, ◌++◌, take, drop}
use Rattle.records.specs.Values.{bytes_of}
use Rattle.record_write.specs.Front.{word_entries}
use Rattle.record_write.proofs.put_words.Given as goal

abbrev pub invariant-loop-i : goal.invariant-loop-i
invariant-loop-i l = l.bytes ≡ bytes_of (word_entries (take l.i l.words)) ++ drop (5 * l.i) l.initial.bytes
