-- The promises of the sender's three doors. Each settles the result and all lent memory: that any two results it allows are equal is
-- proved in proofs/Settled.
--   Opens k r               the promise of `open_sender`
--   Sends s n out r o       the promise of `send`, where the output holds `out` before the call and `o` after it
--   SendsList s ns out r o  the promise of `send_list`, in the same way
use Rattle.std.specs.Prelude.{ℕ, ◌≡◌, List, ℤ}
use Rattle.points.specs.declared.Accord.{Accord}
use Rattle.sender.specs.declared.Sender.{Sender}
use Rattle.sender.specs.declared.Sent.{Sent}
use Rattle.sender.specs.declared.SentList.{SentList}
use Rattle.sender.specs.Send.{number_of, opening, sending, End}
use Rattle.sender.specs.SendList.{sending_list}

pub record Opens (k : Accord) (r : Sent) : Type 0 where
  pub number : number_of r.why ≡ (opening k).number
  pub sender : r.sender ≡ (opening k).sender
  pub end : End r.sender

pub record Sends (s : Sender) (n : ℕ) (out : List ℤ) (r : Sent) (o : List ℤ) : Type 0 where
  pub number : number_of r.why ≡ (sending s n out).number
  pub sender : r.sender ≡ (sending s n out).sender
  pub output : o ≡ (sending s n out).output
  pub again : End s → End r.sender

pub record SendsList (s : Sender) (ns : List ℕ) (out : List ℤ) (r : SentList) (o : List ℤ) : Type 0 where
  pub number : number_of r.why ≡ (sending_list s ns out).number
  pub sent : r.sent ≡ (sending_list s ns out).sent
  pub sender : r.sender ≡ (sending_list s ns out).sender
  pub output : o ≡ (sending_list s ns out).output
  pub again : End s → End r.sender
