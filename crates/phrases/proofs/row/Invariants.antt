-- `row`: the numbers so far are put, and each took no more than its room.
use Rattle.std.proofs.Common.{map, ◌+◌, ◌*◌, ◌≤◌, ◌≡◌, length, take}
use Rattle.page.specs.Page.{Puts}
use Rattle.phrases.specs.Phrase.{after_spaces}
use Rattle.phrases.proofs.row.Given as goal

abbrev pub invariant-loop-n : goal.invariant-loop-n
invariant-loop-n g l = record {
  near : l.p ≤ l.at + l.n-index * g.N.Number.room;
  long : length l.page ≡ length l.fn.page;
  put : Puts l.fn.page l.at (after_spaces (map g.N.Number.text (take l.n-index l.numbers))) l.p l.page;
}
