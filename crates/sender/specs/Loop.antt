-- How the words of an open sender go, in the numbers that the loop over them is lent and gives back. Nothing here need be believed: the
-- promises of the doors are in specs/Promise.
--   sender_at k q s    the open sender of the accord k after the turn q in the state s
--   list_by k w        what the loop gave, as the result of a list
use Rattle.std.specs.Prelude.{ℕ, true}
use Rattle.points.specs.declared.Accord.{Accord}
use Rattle.sender.specs.declared.Sender.{Sender}
use Rattle.sender.specs.declared.SentList.{SentList}
use Rattle.sender.specs.declared.Went.{Went}

abbrev pub sender_at : Accord → ℕ → ℕ → Sender
sender_at k q s = record { live = true; accord = k; turn = q; state = s }

abbrev pub list_by : Accord → Went → SentList
list_by k w = record { sender = sender_at k w.turn w.state; sent = w.sent; why = w.why }
