-- Lines: what a whole line does. Definitions only; the line so far is that of line_buffer/specs/Part.
--   after s                how many tokens stand before the numbers that a line names: its verb and its cap, and the marks of a marked piece
--   named_by s              what a line names: its coordinates, its words, and the marks
--   answering most d s     what the line s does to the desk d: "A line has at most 65,536 bytes before its newline; a longer one answers
--                          `?` once (a comment too)"; most is as many as the buffer has
--   Replies g ..           what was done is g: its desk, and its text put into the page; no bytes of the next line are there yet
use Rattle.std.specs.Prelude.{ℕ, ◌≡◌, cond, Option, Some, None, List, [], ◌∷◌, ltb, length, get_or, drop}
use Rattle.text.specs.Bytes.{bytes}
use Rattle.text.specs.Token.{tokens, same_bytes}
use Rattle.number_lists.specs.Many.{whole_in, number_in, first_of}
use Rattle.line_fields.specs.Row.{row_of}
use Rattle.page.specs.Page.{Puts}
use Rattle.requests.specs.Named.{Named, named}
use Rattle.protocol.specs.Request.{request_of}
use Rattle.desk.specs.declared.Desk.{Desk}
use Rattle.line_reply.specs.declared.Lab.{Lab}
use Rattle.line_buffer.specs.Part.{no_part}
use Rattle.answers.specs.Answer.{unread_line}
use Rattle.desk.specs.Desk.{Result, says, acting}

abbrev pub after : List (List ℕ) → ℕ
after [] = 2
after (v ∷ ts) = cond (same_bytes v (bytes "marked")) 3 2

abbrev pub written : Option (List ℕ) → List ℕ
written (Some ms) = ms
written None = []

-- with room for so many of each
abbrev pub named_in : ℕ → ℕ → ℕ → List (List ℕ) → Named
named_in room many most ts = named (first_of whole_in room (drop (after ts) ts)) (first_of number_in many (drop 2 ts)) (written (row_of most (get_or ts 2 [])))

abbrev pub named_by : List ℕ → Named
named_by s = named_in 4096 4096 1024 (tokens s)

unfoldable pub answering : ℕ → Desk → List ℕ → Result
answering most d s = cond (ltb most (length s)) (says d unread_line) (acting d (request_of 4096 4096 1024 s) (named_by s))

pub record Replies (g : Result) (lab : Lab) (page : List ℕ) (r : Lab) (page' : List ℕ) : Type 0 where
  pub desk : r.desk ≡ g.desk
  pub puts : Puts page lab.at g.text r.at page'
  pub part : r.part ≡ no_part
  pub on : r.on ≡ lab.on
