-- The input as one stream of bytes, answered line by line, and what a pass of the program makes of it. Definitions only;
-- proofs/Streams.antt shows that it makes no difference where the input is cut into chunks, or the answers into pages.
--   Course             how far it went: the desk, the bytes since the last newline, and all answers so far
--   grown c bs         some bytes more, none of them a newline
--   ended most c       the line has come to its end
--   streaming most c bs   after the bytes bs; a newline, 10, ends a line
--   last_line most c    after the input's end: "A last line without a newline counts as a line"
--   Holds c line lab   the program's state is that of c: its desk, and the line in its buffer
--   Stands c before line lab page   besides, the answers so far are those before, and then what the page holds: none is lost, and none
--                                   is there twice
--   Moves go .., Passes last ..   whatever course the state stood at before a call, it stands at the course `go` makes of it afterwards; after
--                                a pass at that of the pass, whose page is new
--   heard now chunk next   the bytes of the chunk that a pass has heard: from where it began up to `next`
--   passed most c ..   after a pass: the input's end, or those bytes
--   Handed             what a pass has heard, and what it handed to `write`
--   bytes_of hs, text_of hs   all that some passes heard, and all that they handed on; the newest pass stands first
--   Follow most c hs   passes one after the other from c on, each adding to the answers what it handed on
--   fine got, over got    a read that gave got did not fail, which is None; it found the input's end, which is Some 0 alone
--   took lab got       what such a read leaves to be heard; where it failed the program does not go on
--   Reads last ..      there is a read only where all that was read before is heard. What it gives no contract can say: got is free, but no
--                      more than the chunk has room for
use Rattle.std.specs.Prelude.{ℕ, ◌-◌, ◌≤◌, ◌<◌, ◌≡◌, Bool, true, false, cond, List, [], ◌∷◌, ◌++◌, eqb, length, take, drop, Option, Some, None, IfSome}
use Rattle.desk.specs.declared.Desk.{Desk}
use Rattle.line_reply.specs.declared.Lab.{Lab}
use Rattle.line_buffer.specs.Part.{Gathered}
use Rattle.line_reply.specs.Line.{answering}
use Rattle.stream.specs.declared.Progress.{Progress}

pub record Course : Type 0 where
  pub desk : Desk
  pub line : List ℕ
  pub text : List ℕ

abbrev pub grown : Course → List ℕ → Course
grown c bs = record { desk = c.desk; line = c.line ++ bs; text = c.text }

abbrev pub ended : ℕ → Course → Course
ended most c = let g = answering most c.desk c.line in record { desk = g.desk; line = []; text = c.text ++ g.text }

abbrev pub streaming : ℕ → Course → List ℕ → Course
streaming most c [] = c
streaming most c (b ∷ bs) = streaming most (cond (eqb b 10) (ended most c) (grown c (b ∷ []))) bs

abbrev pub last_line : ℕ → Course → Course
last_line most c = cond (eqb (length c.line) 0) c (ended most c)

pub record Holds (c : Course) (line : List ℕ) (lab : Lab) : Type 0 where
  pub desk : lab.desk ≡ c.desk
  pub part : Gathered line lab.part c.line

pub record Stands (c : Course) (before line : List ℕ) (lab : Lab) (page : List ℕ) : Type 0 where
  pub holds : Holds c line lab
  pub text : c.text ≡ before ++ take lab.at page

abbrev pub heard : Progress → List ℕ → ℕ → List ℕ
heard now chunk next = take (next - now.from) (drop now.from chunk)

abbrev pub passed : ℕ → Course → Progress → List ℕ → ℕ → Course
passed most c now chunk next = cond now.ends (last_line most c) (streaming most c (heard now chunk next))

abbrev pub Moves : (Course → Course) → List ℕ → Lab → List ℕ → List ℕ → Lab → List ℕ → Type 0
Moves go line lab page line' lab' page' = (c : Course) (b : List ℕ) → Stands c b line lab page → Stands (go c) b line' lab' page'

abbrev pub Passes : Progress → List ℕ → List ℕ → Progress → List ℕ → List ℕ → Type 0
Passes last chunk line r line' page' =
    (c : Course) → Holds c line last.lab → Stands (passed (length line) c last chunk r.from) c.text line' r.lab page'

pub record Handed : Type 0 where
  pub bytes : List ℕ
  pub text : List ℕ

abbrev pub bytes_of : List Handed → List ℕ
bytes_of [] = []
bytes_of (h ∷ hs) = bytes_of hs ++ h.bytes

abbrev pub text_of : List Handed → List ℕ
text_of [] = []
text_of (h ∷ hs) = text_of hs ++ h.text

abbrev pub Follow : ℕ → Course → List Handed → Type 0
Follow most c [] = Unit {0}
Follow most c (h ∷ hs) = Follow most c hs × ((streaming most (streaming most c (bytes_of hs)) h.bytes).text ≡ (streaming most c (bytes_of hs)).text ++ h.text)

abbrev pub fine : Option ℕ → Bool
fine (Some n) = true
fine None = false

abbrev pub over : Option ℕ → Bool
over (Some n) = eqb n 0
over None = false

abbrev pub count : Option ℕ → ℕ
count (Some n) = n
count None = 0

abbrev pub took : Lab → Option ℕ → Progress
took lab got =
    record {
      lab = record { desk = lab.desk; part = lab.part; at = lab.at; on = fine got };
      from = 0;
      to = count got;
      ends = over got;
    }

pub record Reads (last : Progress) (chunk : List ℕ) (r : Progress) (chunk' : List ℕ) : Type 0 where
  pub got : Option ℕ
  pub few : IfSome got (λ n. n ≤ length chunk)
  pub read : last.to ≤ last.from → r ≡ took last.lab got
  pub kept : last.from < last.to → (r ≡ last) × (chunk' ≡ chunk)
