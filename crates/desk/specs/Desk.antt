-- What each request does: the desk after it and the bytes of its answer, one line of the protocol's table after another. Definitions
-- only; the doors are those of the crates `sender`, `receiver` and `samples`, the answers those of `answers`.
--   closed_desk        "One sender and one receiver are held; both start closed"
--   Result            a desk and a text
--   says d t          the desk as it is, and the text t
--   lent cap          "CAP is the length of the output lent"; what it holds makes no difference
--   sender_gives, send_gives, list_gives, opening_gives, ran_gives   what a call gives, made into a desk and an answer
--   heard_room n       what the answer of a piece or a finish takes at most, into an output of n words
--   pending_of rx      "how many symbols the receiver holds undecided; 0 if it is closed"
--   acting d r l      what the request r does to the desk d, where the lists l start with what its line names
--   Does g most ..    what was done is g: its desk, and its text put into the page, of so many bytes at most
--   Acts ..           what was done is what the request does
use Rattle.std.specs.Prelude.{ℕ, ◌+◌, ◌*◌, ◌≤◌, ◌≡◌, cond, List, [], ℤ, pos, take, replicate}
use Rattle.page.specs.Page.{Puts}
use Rattle.phrases.specs.Phrase.{words_room}
use Rattle.requests.specs.declared.Request.{Request}
use Rattle.requests.specs.declared.Request.TheVariants as request
use Rattle.requests.specs.Named.{Named}
use Rattle.samples.specs.Heard.{heard_bits, both_or_fault}
use Rattle.sender.specs.declared.Sender.{Sender}
use Rattle.sender.specs.Send as sender
use Rattle.sender.specs.SendList.{GivenList, sending_list}
use Rattle.machine.specs.declared.Receiver.{Receiver}
use Rattle.machine.specs.Machine as machine
use Rattle.reasons.specs.Reason.{given_of}
use Rattle.openings.specs.declared.Start.TheVariants.{Free, At}
use Rattle.openings.specs.Opening as openings
use Rattle.receiver_meaning.specs.Piece.{piece_of, marked_piece}
use Rattle.receiver.specs.Doors as receiver
use Rattle.desk.specs.declared.Desk.{Desk}
use Rattle.desk.specs.declared.Done.{Done}
use Rattle.answers.specs.Answer.{answer_room, number_line, sent_line, list_line, heard_line, sample_line, missing_line, card_line, unread_line}

abbrev pub closed_desk : Desk
closed_desk = record { sender = sender.shut; receiver = machine.shut }

pub record Result : Type 0 where
  pub desk : Desk
  pub text : List ℕ

abbrev pub says : Desk → List ℕ → Result
says d t = record { desk = d; text = t }

abbrev pub with_sender : Desk → Sender → Desk
with_sender d s = record { sender = s; receiver = d.receiver }

abbrev pub with_receiver : Desk → Receiver → Desk
with_receiver d rx = record { sender = d.sender; receiver = rx }

abbrev pub sender_gives : Desk → sender.Given → Result
sender_gives d g = says (with_sender d g.sender) (number_line g.number)

abbrev pub send_gives : Desk → sender.Given → Result
send_gives d g = says (with_sender d g.sender) (sent_line g.number g.output)

abbrev pub list_gives : Desk → GivenList → Result
list_gives d g = says (with_sender d g.sender) (list_line g.sent g.number (take (4 * g.sent) g.output))

abbrev pub opening_gives : Desk → openings.Opening → Result
opening_gives d o = says (with_receiver d o.receiver) (number_line (given_of o.why).number)

abbrev pub ran_gives : Desk → receiver.Ran → Result
ran_gives d r = says (with_receiver d r.receiver) (heard_line r.taken (given_of r.why) r.words)

abbrev pub lent : ℕ → List ℤ
lent cap = replicate cap (pos 0)

abbrev pub heard_room : ℕ → ℕ
heard_room n = 92 + words_room n

abbrev pub pending_of : Receiver → ℕ
pending_of rx = cond (machine.sound rx) rx.core.pending 0

unfoldable pub acting : Desk → Request → Named → Result
acting d request.Nothing l = says d []
acting d request.Unread l = says d unread_line
acting d (request.Sender k) l = sender_gives d (sender.opening k)
acting d (request.Send w cap) l = send_gives d (sender.sending d.sender w (lent cap))
acting d (request.Plain k) l = opening_gives d (openings.plain_opening k)
acting d (request.Free k w) l = opening_gives d (openings.opening k w Free)
acting d (request.At k w s) l = opening_gives d (openings.opening k w (At s))
acting d (request.Piece cap n) l = ran_gives d (receiver.hearing d.receiver (piece_of (take n l.coordinates)) cap)
acting d (request.Finish cap) l = ran_gives d (receiver.finishing d.receiver cap)
acting d (request.Sample x y) l = says d (sample_line (both_or_fault (heard_bits x) (heard_bits y)))
acting d request.Pending l = says d (number_line (pending_of d.receiver))
acting d (request.List cap n) l = list_gives d (sending_list d.sender (take n l.words) (lent cap))
acting d request.Missing l = says d missing_line
acting d (request.Marked cap m n) l = ran_gives d (receiver.hearing d.receiver (marked_piece (take m l.marks) (take n l.coordinates)) cap)
acting d (request.Card accepted) l = says d (card_line accepted)

-- the last part follows from the one before it; it is stated so that callers find it
pub record Does (g : Result) (most : ℕ) (page : List ℕ) (at : ℕ) (r : Done) (page' : List ℕ) : Type 0 where
  pub desk : r.desk ≡ g.desk
  pub puts : Puts page at g.text r.at page'
  pub near : r.at ≤ at + most

abbrev pub Acts : Desk → Request → Named → List ℕ → ℕ → Done → List ℕ → Type 0
Acts desk asked l page at r page' = Does (acting desk asked l) answer_room page at r page'
