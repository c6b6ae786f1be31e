-- The steps that the program takes over two files, by what `compare` tells of the bytes that wait. Which bytes a read gave no contract can say; all
-- else of a step is here. That such steps, from the first to the last, say the comparison of 02, Wish 12, of the bytes of two files is proved in
-- proofs/SideTurns.
--   shape_of s at      what a file is, by the sign at which its reading for form stopped; none as long as it goes on
--   FormTurn r before q after   one turn of the first reading: from r to q, and the chunk before and after it
--   waiting s chunk   the bytes of a side that wait
--   Kept s before r after   the side s is read on, or not, and is r: what waited waits still
--   LineSaid, Heeded  a line is put on the page, at its place; what is put where two lumps told so
--   SideTurn b one two r    what one turn of the second reading tells of the bytes that wait, before it reads on
--   only_line a b      the only line, where a file is malformed, the first checked first; `Same` where both are to be read side by side
use Rattle.std.specs.Prelude.{ℕ, ◌+◌, ◌-◌, ◌≤◌, ◌≡◌, ◌⊎◌, Option, Some, None, List, take, drop}
use Rattle.record_front.specs.declared.Sign.{Sign}
use Rattle.record_front.specs.declared.Sign.TheVariants as sign
use Rattle.compare_events.specs.declared.Event.{Event}
use Rattle.compare_events.specs.declared.Event.TheVariants.{Same, Said, Last, Wait, Broken}
use Rattle.compare_events.specs.declared.Line.{Line}
use Rattle.compare_events.specs.declared.Line.TheVariants.{FirstMalformed, SecondMalformed}
use Rattle.compare.specs.declared.Formed.{Formed}
use Rattle.compare.specs.Passing.{form_of, pass_of}
use Rattle.page.specs.Page.{Puts}
use Rattle.compare_text.specs.Says.{line_text}
use Rattle.compare_files.specs.declared.Side.{Side}
use Rattle.compare_files.specs.declared.Out.{Out}
use Rattle.compare_files.specs.declared.Both.{Both}
use Rattle.compare_files.specs.declared.Shape.{Shape}
use Rattle.compare_files.specs.declared.Shape.TheVariants.{Clean, Malformed}
use Rattle.compare_files.specs.declared.Reading.{Reading}

abbrev pub shape_of : Sign → ℕ → Option Shape
shape_of sign.Record at = None
shape_of sign.Gone at = Some Clean
shape_of sign.More at = None
shape_of sign.Bad at = Some (Malformed at)

-- what `form` tells of the bytes that wait after the read
abbrev pub told_by : Reading → Reading → List ℕ → Formed
told_by r q chunk = form_of r.phase r.at (take q.side.to chunk) q.side.ends

pub record FormTurn (r : Reading) (before : List ℕ) (q : Reading) (after : List ℕ) : Type 0 where
  -- what waited waits still, at the front, and what was read stands behind it
  pub waits : r.side.to - r.side.from ≤ q.side.to
  pub kept : take (r.side.to - r.side.from) after ≡ take (r.side.to - r.side.from) (drop r.side.from before)
  -- and the reading goes on from there, past what `form` has used
  pub phase : q.phase ≡ (told_by r q after).phase
  pub at : q.at ≡ (told_by r q after).at
  pub used : q.side.from ≡ (told_by r q after).used
  pub shape : q.shape ≡ shape_of (told_by r q after).sign (told_by r q after).at

abbrev pub waiting : Side → List ℕ → List ℕ
waiting s chunk = take (s.to - s.from) (drop s.from chunk)

pub record Kept (s : Side) (before : List ℕ) (r : Side) (after : List ℕ) : Type 0 where
  pub waits : s.to - s.from ≤ r.to - r.from
  pub kept : take (s.to - s.from) (drop r.from after) ≡ waiting s before

-- the page goes on behind the line, or was handed on up to there and begins anew
pub record LineSaid (line : Line) (page : List ℕ) (at : ℕ) (r : Out) (page' : List ℕ) : Type 0 where
  pub end : ℕ
  pub put : Puts page at (line_text line) end page'
  pub next : (r.at ≡ end) ⊎ (r.at ≡ 0)

abbrev pub Heeded : Event → List ℕ → ℕ → Out → List ℕ → Type 0
Heeded Same page at r page' = (r.at ≡ at) × (page' ≡ page)
Heeded (Said l) page at r page' = LineSaid l page at r page'
Heeded (Last l) page at r page' = LineSaid l page at r page'
Heeded Wait page at r page' = (r.at ≡ at) × (page' ≡ page)
Heeded Broken page at r page' = (r.at ≡ at) × (page' ≡ page)

pub record SideTurn (b : Both) (one two page : List ℕ) (r : Both) (page' : List ℕ) : Type 0 where
  pub pass : r.pass ≡ pass_of b.pass (waiting b.first one) (waiting b.second two) b.first.ends b.second.ends
  pub first : (r.first.from ≡ b.first.from + r.pass.here) × (r.first.to ≡ b.first.to)
  pub second : (r.second.from ≡ b.second.from + r.pass.there) × (r.second.to ≡ b.second.to)
  pub heeded : Heeded r.pass.event page b.out.at r.out page'

-- "Malformed input gives one line only, `first malformed P` or `second malformed P`, the first checked first"
abbrev pub second_line : Shape → Event
second_line Clean = Same
second_line (Malformed p) = Last (SecondMalformed p)

abbrev pub only_line : Shape → Shape → Event
only_line Clean b = second_line b
only_line (Malformed p) b = Last (FirstMalformed p)
