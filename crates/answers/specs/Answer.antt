-- What each answer says, byte by byte: the answers of the protocol's table. Definitions only; proofs/Answers.antt has what follows of
-- them. The parts of a line are those of phrases/specs/Phrase.
--   number_line n      "`N`", which answers an opening, and the count of `pending`
--   first_four out     the four coordinates of an output; none where it has fewer places, for then no send is done
--   sent_line n out    "`N`, then the four coordinates if N is 0"
--   list_line k n zs   "`SENT N`, and if coordinates were written ` :` and each after a space", which answers a list
--   heard_line n r ws  "`TAKEN WRITTEN N`", the place and the words, which answers a piece and a finish
--   pair_line x y, refused_line p, sample_line g   "`X Y`, or `5 place P`"
--   missing_line       "`sample missing` answers `missing`"; sampled_line g, of a sample that may be missing
--   card_line b        "answers `accepted` or `refused`", which answers a card (02, Wish 14)
--   unread_line        "A line it cannot read answers `?`"
--   answer_room        what any answer takes at most: three numbers with the spaces between them, a place, an output of 4096
--                     coordinates, a newline
use Rattle.std.specs.Prelude.{ℕ, ◌+◌, ◌*◌, Bool, cond, List, [], ◌++◌, map, eqb, leb, ℤ, length, take}
use Rattle.std.proofs.Math.Option.{Option, none, some}
use Rattle.text.specs.Bytes.{bytes}
use Rattle.samples.specs.Given.{GivenSample}
use Rattle.samples.specs.Sampled.{GivenSampled}
use Rattle.reasons.specs.Reason.{Reason}
use Rattle.phrases.specs.Phrase.{decimal, whole, after_spaces, place_text, reason_text, said_text, said_wholes}

abbrev pub number_line : ℕ → List ℕ
number_line n = decimal n ++ bytes "\n"

abbrev pub first_four : List ℤ → List ℤ
first_four out = cond (leb 4 (length out)) (take 4 out) []

unfoldable pub sent_line : ℕ → List ℤ → List ℕ
sent_line n out = decimal n ++ cond (eqb n 0) (after_spaces (map whole (first_four out))) [] ++ bytes "\n"

unfoldable pub list_line : ℕ → ℕ → List ℤ → List ℕ
list_line k n zs = decimal k ++ bytes " " ++ decimal n ++ said_wholes zs ++ bytes "\n"

unfoldable pub heard_line : ℕ → Reason → List ℕ → List ℕ
heard_line n r ws = decimal n ++ bytes " " ++ decimal (length ws) ++ bytes " " ++ reason_text r ++ said_text ws ++ bytes "\n"

abbrev pub pair_line : ℤ → ℤ → List ℕ
pair_line x y = whole x ++ (bytes " " ++ whole y) ++ bytes "\n"

abbrev pub refused_line : ℕ → List ℕ
refused_line p = bytes "5" ++ place_text p ++ bytes "\n"

abbrev pub line_by : Option ℕ → ℤ → ℤ → List ℕ
line_by none x y = pair_line x y
line_by (some p) x y = refused_line p

unfoldable pub sample_line : GivenSample → List ℕ
sample_line g = line_by g.place g.x g.y

abbrev pub missing_line : List ℕ
missing_line = bytes "missing\n"

abbrev pub sampled_line : GivenSampled → List ℕ
sampled_line g = cond g.missing missing_line (sample_line g.given)

abbrev pub card_line : Bool → List ℕ
card_line accepted = cond accepted (bytes "accepted\n") (bytes "refused\n")

abbrev pub unread_line : List ℕ
unread_line = bytes "?\n"

abbrev pub answer_room : ℕ
answer_room = 92 + 4096 * 22
