-- Answers of the first session that `lab help` prints, and some others, as the definitions of `phrases` and `answers` compute them; and
-- a session, as those of `stream` do.
use Prim.Native.Nat.{ℕ}
use mathlib.Core.Path.{◌≡◌, refl}
use mathlib.Core.List.{List, [], ◌∷◌, ◌++◌}
use lib.IntN.{pos, negsuc}
use Rattle.text.specs.Bytes.{bytes}
use Rattle.text.specs.Number.{digit_of, number_of, whole_of, hex_of}
use Rattle.line_fields.specs.Row.{is_mark, is_row, row_of}
use Rattle.card.specs.Check.{lengths_fit, accepts}
use Rattle.protocol.specs.Request.{verb_of, request_of}
use Rattle.samples.specs.Given.{both_done, refused_at}
use Rattle.samples.specs.Heard.{heard_bits}
use Rattle.wei.specs.Word.{unpacked}
use Rattle.wei.specs.Label.{second_label}
use Rattle.wei.specs.State.{next_state}
use Rattle.wei.specs.Symbol.{symbol_of, last_label}
use Rattle.points.specs.Points.{coordinates, a_point}
use Rattle.points.specs.Turn.{point_of}
use Rattle.maps.specs.SquareMap.{square_of, grid_point}
use Rattle.maps.specs.PointMap.{first_at, second_at}
use Rattle.sender.specs.Send.{opening, sending, after, four}
use Rattle.sender.specs.SendList.{sending_all, sending_list}
use Rattle.machine.specs.Machine.{shut, sound}
use Rattle.openings.specs.Opening as openings
use Rattle.receiver.specs.Doors.{hearing}
use Rattle.reasons.specs.Reason.{reason}
use Rattle.phrases.specs.Phrase.{decimal, whole, reason_text, said_text, said_wholes}
use Rattle.answers.specs.Answer.{number_line, sent_line, list_line, heard_line, sample_line, missing_line}
use Rattle.desk.specs.Desk.{closed_desk, acting}
use Rattle.line_reply.specs.Line.{answering}
use Rattle.stream.specs.Stream.{streaming, last_line}

abbrev answers : List (List ℕ)
answers =
    number_line 0
    ∷ number_line 18446744073709551615
    ∷ sent_line 0 (negsuc 0 ∷ negsuc 0 ∷ pos 1 ∷ pos 1 ∷ [])
    ∷ sent_line 8 (pos 7 ∷ pos 7 ∷ pos 7 ∷ [])
    ∷ list_line 1 4 (pos 1 ∷ negsuc 0 ∷ pos 1 ∷ negsuc 0 ∷ [])
    ∷ list_line 0 0 []
    ∷ heard_line 1 (reason 0) []
    ∷ heard_line 0 (reason 0) (5 ∷ [])
    ∷ heard_line 12 (record { number = 5; place = 3 }) (100 ∷ 20 ∷ [])
    ∷ sample_line (both_done (pos 128) (negsuc 127))
    ∷ sample_line (refused_at 1)
    ∷ missing_line
    ∷ []

pub examples : answers
    ≡ bytes "0\n"
    ∷ bytes "18446744073709551615\n"
    ∷ bytes "0 -1 -1 1 1\n"
    ∷ bytes "8\n"
    ∷ bytes "1 4 : 1 -1 1 -1\n"
    ∷ bytes "0 0\n"
    ∷ bytes "1 0 0\n"
    ∷ bytes "0 1 0 : 5\n"
    ∷ bytes "12 2 5 place 3 : 100 20\n"
    ∷ bytes "128 -128\n"
    ∷ bytes "5 place 1\n"
    ∷ bytes "missing\n"
    ∷ []
unfolding decimal whole sent_line list_line reason_text said_text said_wholes heard_line sample_line
examples = refl

-- a comment, an empty line, both openings of a sender, a word, a list whose last word is none, the square map and a word on it, an odd width and
-- another name of it, a sample that is missing, marks for a receiver that is closed, a row that is none, a card of no symbols, one of too many
-- and one of another map, and a last line that no newline follows and that lacks its CAP
abbrev typed : List ℕ
typed =
    bytes "# a comment\n\nsender 9\nsender 0\nsend 5 4\nlist 9 0 2 8\n"
    ++ bytes "sender 2 square\nsend 8 4\nreceiver 1 square\nreceiver 2 64 free squares\npending\n"
    ++ bytes "sample 3F800000 7f800000\nsample missing\nmarked 4 31 0 0 0 0\nmarked 4 4\n"
    ++ bytes "card round 0 0 15 0 0 0 0 0 0 0 0 0 0 0 0 0 0 0 18446744073709551615\ncard round 0 0 15\ncard round 0 65\ncard cube 0 0\nsend 5"

pub session : (last_line 65536 (streaming 65536 (record { desk = closed_desk; line = []; text = [] }) typed)).text
    ≡ bytes "1\n0\n0 -1 -1 1 1\n2 4 : -1 -1 -1 1 -1 1 -1 1\n0\n0 1 -3 1 1\n1\n?\n0\n5 place 1\nmissing\n0 0 9\n?\nrefused\n?\n?\n?\n?\n"
unfolding answering acting request_of verb_of number_of whole_of hex_of digit_of row_of is_row is_mark decimal whole sent_line list_line said_wholes sample_line
    heard_line reason_text said_text hearing heard_bits shut sound opening sending sending_all sending_list symbol_of after four
    first_at second_at last_label point_of a_point coordinates square_of grid_point unpacked next_state second_label openings.opening accepts lengths_fit
session = refl
