-- The verdict on a capture, in the words of 02, Wishes 2, 4 and 11, record by record: what a reader believes. The receiver stands here as what it has
-- been told and what it owes for it (receiver_meaning/specs), not as a machine.
--   Line            what the receiver has been told; closed before the open and after a finish
--   agreed v        no fault is found so far
--   Seen            the line, the words still due, the number of the next record, and the verdict so far: `Agree`, as long as no fault is found
--   taking s r      what is seen after one record more; after a fault nothing is looked at
--   takings s rs    after some records
--   closing s e     the verdict where the capture ends, or is malformed
--   verdict_of bs    THE VERDICT on a capture
use Rattle.std.specs.Prelude.{ℕ, ◌+◌, Bool, true, false, cond, List, [], ◌∷◌, eqb}
use Rattle.receiver_meaning.specs.Told.{Told}
use Rattle.receiver_meaning.specs.Piece.{marked_piece}
use Rattle.receiver_meaning.specs.Owed.{piece_owed, finish_owed}
use Rattle.openings.specs.Given.{start_at}
use Rattle.openings.specs.Given as given
use Rattle.openings.specs.Opening.{opening_owed}
use Rattle.records.specs.declared.Role.{Role}
use Rattle.records.specs.declared.Role.TheVariants.{Open, Symbol, Word, Finish, Unknown}
use Rattle.records.specs.Kinds.{kind_of}
use Rattle.records.specs.Values.{Entry, accord_of, window_of, start_of, mark_in, coordinates_of, word_of}
use Rattle.records.specs.Reading.{Ending, clean, malformed, reading_of}
use Rattle.replay_judge.specs.declared.Verdict.{Verdict}
use Rattle.replay_judge.specs.declared.Verdict.TheVariants.{Agree, Differs, Extra, Missing, Refused, Malformed}

pub data Line : Type 0 where
  closed : Line
  told : Told → Line

abbrev pub agreed : Verdict → Bool
agreed (Agree n) = true
agreed (Differs n g h) = false
agreed (Extra n g) = false
agreed (Missing n h) = false
agreed (Refused n w) = false
agreed (Malformed p) = false

pub record Seen : Type 0 where
  pub line : Line
  pub due : List ℕ
  pub number : ℕ
  pub verdict : Verdict

abbrev pub nothing_seen : Seen
nothing_seen = record { line = closed; due = []; number = 0; verdict = Agree 0 }

-- the first fault is the verdict
abbrev pub fault : Seen → Verdict → Seen
fault s v = record { line = s.line; due = s.due; number = s.number; verdict = v }

-- the record stands as it should: the line after it, and the words that are due now
abbrev pub went : Seen → Line → List ℕ → Seen
went s l ws = record { line = l; due = ws; number = s.number + 1; verdict = s.verdict }

-- the receiver answered with number n: 0, or `record N refused R`
abbrev pub answered : Seen → ℕ → Line → List ℕ → Seen
answered s n l ws = cond (eqb n 0) (went s l ws) (fault s (Refused s.number n))

-- room for the words of one symbol or finish: no receiver has more than 64 pending, and no 8 is ever answered (`never-eight`, proofs/Meant; of a finish `finish-most`, receiver/proofs/Laws)
abbrev pub room : ℕ
room = 65

-- "Kind 1, open: u, window, start (0 to 15, 16 for free)", and kind 6, on the square map; "A refused open is `record 0 refused R`"
abbrev pub opened : ℕ → List ℕ → Told
opened k b = record { accord = accord_of k b; window = window_of b; start = given.start_of (start_at (start_of b)); heard = [] }

abbrev pub opens : Seen → ℕ → List ℕ → Seen
opens s k b = answered s (opening_owed (accord_of k b) (window_of b) (start_at (start_of b))) (told (opened k b)) []

-- "Kind 2, symbol taken", and kind 5, a symbol with missing points: a piece of one symbol with its mark, in kind 2 none; a closed line answers 9
abbrev pub hears : Seen → Line → ℕ → List ℕ → Seen
hears s closed k b = answered s 9 closed []
hears s (told t) k b =
    let d = piece_owed t (marked_piece (mark_in k b ∷ []) (coordinates_of k b)) room in
    answered s d.reason.number (told d.told) d.words

-- "Kind 4, finish"
abbrev pub ends : Seen → Line → Seen
ends s closed = answered s 9 closed []
ends s (told t) = let d = finish_owed t room in answered s d.reason.number closed d.words

-- "`record N missing word H`", where a word should stand and a symbol or a finish does
abbrev pub unless_due : Seen → List ℕ → Seen → Seen
unless_due s [] n = n
unless_due s (h ∷ hs) n = fault s (Missing s.number h)

-- "`record N word G expected H` .. a word too many shown with `expected none`"; n words have agreed before
abbrev pub says : Seen → ℕ → ℕ → List ℕ → Seen
says s n g [] = fault s (Extra s.number g)
says s n g (h ∷ hs) = cond (eqb g h) (record { line = s.line; due = hs; number = s.number + 1; verdict = Agree (n + 1) }) (fault s (Differs s.number g h))

abbrev pub by_role : Role → Seen → ℕ → ℕ → List ℕ → Seen
by_role Open s n k b = opens s k b
by_role Symbol s n k b = unless_due s s.due (hears s s.line k b)
by_role Word s n k b = says s n (word_of b) s.due
by_role Finish s n k b = unless_due s s.due (ends s s.line)
by_role Unknown s n k b = s

abbrev pub upon : Verdict → Seen → Entry → Seen
upon (Agree n) s r = by_role (kind_of r.kind).role s n r.kind r.body
upon (Differs n g h) s r = s
upon (Extra n g) s r = s
upon (Missing n h) s r = s
upon (Refused n w) s r = s
upon (Malformed p) s r = s

unfoldable pub taking : Seen → Entry → Seen
taking s r = upon s.verdict s r

unfoldable pub takings : Seen → List Entry → Seen
takings s [] = s
takings s (r ∷ rs) = takings (taking s r) rs

-- "`agree N` with the number of words"; "A capture may end with no finish", but not before the words that are due
abbrev pub at_end : Seen → Verdict → List ℕ → Verdict
at_end s v [] = v
at_end s v (h ∷ hs) = Missing s.number h

-- "a record malformed there is reported first"
abbrev pub closing_at : Verdict → Seen → Ending → Verdict
closing_at (Agree n) s clean = at_end s (Agree n) s.due
closing_at (Agree n) s (malformed p) = Malformed p
closing_at (Differs n g h) s e = Differs n g h
closing_at (Extra n g) s e = Extra n g
closing_at (Missing n h) s e = Missing n h
closing_at (Refused n w) s e = Refused n w
closing_at (Malformed p) s e = Malformed p

abbrev pub closing : Seen → Ending → Verdict
closing s e = closing_at s.verdict s e

unfoldable pub verdict_of : List ℕ → Verdict
verdict_of bs = closing (takings nothing_seen (reading_of bs).records) (reading_of bs).ending
