-- What a line of a recording does. The receiver's calls are the recorder's (recorder/specs), the answers are lab's (answers/specs). Definitions
-- only; proofs/Settled shows that the promise allows one result alone.
--   Note                what is left: the receiver, whether an opening is recorded, the records, the answer, and whether the recording ends
--   stays rx begun t    all as it was, and the answer t
--   opens ..            "A refused opening leaves no record, and another may follow. After an opening that answered 0 a further `receiver ..`
--                       ends the recording": nothing is recorded or answered then
--   taped begun r       what a recorded call gives
--   start_number s       the number in a record of the named state s: 16 is the free start there and no state, so 17 stands for it
--   noting ..           what a request does, where the lists l start with what its line names and the bytes have so much room: "Each line is
--                       answered as lab would, CAP being the room for words; unreadable lines and other verbs answer `?`"
--   noting_line most ..  what a line does; most is as many bytes as a line may have
--   Notes g ..          what was done is g: its records at the front of the bytes, its answer at the front of the page, all else unchanged
use Rattle.std.specs.Prelude.{ℕ, ◌≤◌, ◌≡◌, Bool, true, false, cond, List, [], eqb, ltb, length, take}
use Rattle.points.specs.declared.Accord.{Accord}
use Rattle.machine.specs.declared.Receiver.{Receiver}
use Rattle.reasons.specs.Reason.{given_of}
use Rattle.openings.specs.Given.{start_at, plain_window}
use Rattle.openings.specs.Opening.{opening}
use Rattle.receiver_meaning.specs.Piece.{piece_of, marked_piece}
use Rattle.records.specs.Values.{Entry}
use Rattle.record_write.specs.Front.{Fronted, space_of}
use Rattle.recorder.specs.Recorded.{open_records, opening_recorded}
use Rattle.recorder.specs.Taping.{Ran}
use Rattle.recorder.specs.Doors.{taped_hearing, taped_finishing}
use Rattle.page.specs.Page.{Puts}
use Rattle.requests.specs.declared.Request.{Request}
use Rattle.requests.specs.declared.Request.TheVariants as request
use Rattle.requests.specs.Named.{Named}
use Rattle.protocol.specs.Request.{request_of}
use Rattle.line_reply.specs.Line.{named_by}
use Rattle.answers.specs.Answer.{number_line, heard_line, unread_line}
use Rattle.record_text.specs.declared.Noted.{Noted}

pub record Note : Type 0 where
  pub receiver : Receiver
  pub begun : Bool
  pub records : List Entry
  pub text : List ℕ
  pub ends : Bool

abbrev pub stays : Receiver → Bool → List ℕ → Note
stays rx begun t = record { receiver = rx; begun = begun; records = []; text = t; ends = false }

-- the opening that answers n
abbrev pub opens_with : ℕ → Accord → ℕ → ℕ → Note
opens_with n k w s =
    record { receiver = (opening k w (start_at s)).receiver; begun = eqb n 0; records = cond (eqb n 0) (open_records k w s) []; text = number_line n; ends = false }

unfoldable pub opens : Receiver → Bool → Accord → ℕ → ℕ → ℕ → Note
opens rx begun k w s room = cond begun (record { receiver = rx; begun = begun; records = []; text = []; ends = true }) (opens_with (opening_recorded k w s room) k w s)

abbrev pub taped : Bool → Ran → Note
taped begun r =
    record { receiver = r.receiver; begun = begun; records = r.records; text = heard_line r.taken (given_of r.why) r.words; ends = false }

abbrev pub free_number : ℕ
free_number = 16

abbrev pub start_number : ℕ → ℕ
start_number s = cond (eqb s 16) 17 s

unfoldable pub noting : Receiver → Bool → Request → Named → ℕ → Note
noting rx begun request.Nothing l room = stays rx begun []
noting rx begun (request.Plain k) l room = opens rx begun k plain_window free_number room
noting rx begun (request.Free k w) l room = opens rx begun k w free_number room
noting rx begun (request.At k w s) l room = opens rx begun k w (start_number s) room
noting rx begun (request.Piece cap n) l room = taped begun (taped_hearing rx (piece_of (take n l.coordinates)) cap room)
noting rx begun (request.Marked cap m n) l room = taped begun (taped_hearing rx (marked_piece (take m l.marks) (take n l.coordinates)) cap room)
noting rx begun (request.Finish cap) l room = taped begun (taped_finishing rx cap room)
noting rx begun request.Unread l room = stays rx begun unread_line
noting rx begun (request.Sender k) l room = stays rx begun unread_line
noting rx begun (request.Send w cap) l room = stays rx begun unread_line
noting rx begun (request.Sample x y) l room = stays rx begun unread_line
noting rx begun request.Pending l room = stays rx begun unread_line
noting rx begun (request.List cap n) l room = stays rx begun unread_line
noting rx begun request.Missing l room = stays rx begun unread_line
noting rx begun (request.Card accepted) l room = stays rx begun unread_line

-- "A line has at most 65,536 bytes before its newline; a longer one answers `?` once"
unfoldable pub noting_line : ℕ → Receiver → Bool → List ℕ → ℕ → Note
noting_line most rx begun s room = cond (ltb most (length s)) (stays rx begun unread_line) (noting rx begun (request_of 4096 4096 1024 s) (named_by s) room)

-- the last two parts follow from those before them; they are stated so that callers find them
pub record Notes (g : Note) (bytes page : List ℕ) (r : Noted) (b page' : List ℕ) : Type 0 where
  pub receiver : r.receiver ≡ g.receiver
  pub begun : r.begun ≡ g.begun
  pub ends : r.ends ≡ g.ends
  pub recorded : r.recorded ≡ space_of g.records
  pub bytes-are : Fronted g.records bytes b
  pub puts : Puts page 0 g.text r.at page'
  pub fits : r.recorded ≤ length bytes
  pub near : r.at ≤ length page
