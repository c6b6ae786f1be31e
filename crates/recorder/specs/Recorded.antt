-- What a recorder owes to a receiver that has been told something: what `hear` and `finish` owe (receiver_meaning/specs/Owed), and beside the words the
-- records of what was taken and released, where they have room. 02, Wish 2: "Words stand right after the symbol or finish that gave them.
-- Refused symbols are not recorded."
--   open_records             the record of an opening; those of a symbol and of a finish, and how many bytes they need, are record_write/specs/Front
--   judge_recorded           what is said to a symbol: an 8 too where it would be taken and the bytes are too short for its records
--   Walked, walk_recorded    hearing symbols after ys, with room for so many words and so many bytes, up to the first that is refused
--   PieceRecorded, piece_recorded     what a piece owes
--   FinishRecorded, finish_recorded   what a finish owes
--   opening_recorded         the number of an opening's record: 8, 1, 2, 3 in this order
use Rattle.std.specs.Prelude.{ℕ, suc, ◌-◌, Bool, true, false, cond, ◌&&◌, ◌||◌, List, [], ◌∷◌, ◌++◌, eqb, ltb, length}
use Rattle.calls.specs.Calls.{fresh, rest}
use Rattle.trellis.specs.Measure.{Two}
use Rattle.nearest.specs.declared.Received.{Received}
use Rattle.points.specs.declared.Accord.{Accord}
use Rattle.reasons.specs.Reason.{Reason, reason}
use Rattle.openings.specs.Given.{start_at}
use Rattle.openings.specs.Opening.{opening_owed}
use Rattle.receiver_meaning.specs.Told.{Told, speaker_of, judge_symbol, with_heard}
use Rattle.receiver_meaning.specs.Piece.{Piece}
use Rattle.records.specs.Values.{Entry, open_entry}
use Rattle.record_write.specs.Front.{symbol_records, finish_records, space_of}

abbrev pub open_records : Accord → ℕ → ℕ → List Entry
open_records k window start = open_entry k window start ∷ []

-- ---- a piece

-- "5, 6, 8, where 8 is an out too short for the symbol's words or bytes too short for its records"
unfoldable pub judge_recorded : Told → List (Two Received) → Two Received → ℕ → ℕ → Reason
judge_recorded t ys y room bytes =
    let j = judge_symbol t ys y room in
    cond (eqb j.number 0 && ltb bytes (space_of (symbol_records y (fresh (speaker_of t) ys y)))) (reason 8) j

pub record Walked : Type 0 where
  pub heard : List (Two Received)
  pub words : List ℕ
  pub records : List Entry
  pub taken : ℕ
  pub why : Reason

abbrev pub stops_before : List (Two Received) → Reason → Walked
stops_before ys r = record { heard = ys; words = []; records = []; taken = 0; why = r }

abbrev pub goes_on : List ℕ → List Entry → Walked → Walked
goes_on ws rs e = record { heard = e.heard; words = ws ++ e.words; records = rs ++ e.records; taken = suc e.taken; why = e.why }

unfoldable pub walk_recorded : Told → List (Two Received) → List (Two Received) → ℕ → ℕ → Walked
walk_recorded t ys [] room bytes = stops_before ys (reason 0)
walk_recorded t ys (z ∷ zs) room bytes =
    let j = judge_recorded t ys z room bytes in
    let ws = fresh (speaker_of t) ys z in
    let rs = symbol_records z ws in
    cond (eqb j.number 0) (goes_on ws rs (walk_recorded t (z ∷ ys) zs (room - length ws) (bytes - space_of rs))) (stops_before ys j)

pub record PieceRecorded : Type 0 where
  pub reason : Reason
  pub taken : ℕ
  pub words : List ℕ
  pub records : List Entry
  pub told : Told

unfoldable pub piece_recorded : Told → Piece → ℕ → ℕ → PieceRecorded
piece_recorded t p room bytes =
    let e = walk_recorded t t.heard p.symbols room bytes in
    cond p.fits
    (record { reason = e.why; taken = e.taken; words = e.words; records = e.records; told = with_heard t e.heard })
    (record { reason = reason 10; taken = 0; words = []; records = []; told = t })

-- ---- a finish

pub record FinishRecorded : Type 0 where
  pub reason : Reason
  pub words : List ℕ
  pub records : List Entry
  pub closes : Bool

-- 8: the output too short for all pending words, or the bytes too short for the finish and these words
unfoldable pub finish_recorded : Told → ℕ → ℕ → FinishRecorded
finish_recorded t room bytes =
    let ws = rest (speaker_of t) t.heard in
    cond (ltb room (length ws) || ltb bytes (space_of (finish_records ws)))
    (record { reason = reason 8; words = []; records = []; closes = false })
    (record { reason = reason 0; words = ws; records = finish_records ws; closes = true })

-- ---- an opening

unfoldable pub opening_recorded : Accord → ℕ → ℕ → ℕ → ℕ
opening_recorded k window start bytes = cond (ltb bytes (space_of (open_records k window start))) 8 (opening_owed k window (start_at start))
