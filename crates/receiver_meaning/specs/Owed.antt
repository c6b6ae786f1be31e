-- What the doors owe to a receiver that has been told something, in the words of 01: the number and the place, the symbols taken, the
-- words written, and what it has been told after the call. The words are those that `calls` says of anything that speaks and answers.
--   Owed                  what a call owes: the reason, how many symbols it takes, the words it writes, what is told after it
--   piece_owed t p room    what a piece owes: `piece_goes`, or `piece_uneven`
--   finish_owed t room     what a finish owes, the words and whether it closes: `finish_done`, or `finish_short`
use Rattle.std.specs.Prelude.{ℕ, Bool, true, false, cond, List, [], ltb, length}
use Rattle.calls.specs.Calls.{Ended, walk, rest}
use Rattle.reasons.specs.Reason.{Reason, reason}
use Rattle.receiver_meaning.specs.Told.{Told, speaker_of, judge_of, with_heard}
use Rattle.receiver_meaning.specs.Piece.{Piece}

pub record Owed : Type 0 where
  pub reason : Reason
  pub taken : ℕ
  pub words : List ℕ
  pub told : Told

-- how the symbols of the piece go, up to the first that is refused
abbrev pub ended_of : (t : Told) → Piece → ℕ → Ended (speaker_of t) (judge_of t)
ended_of t p room = walk (speaker_of t) (judge_of t) t.heard p.symbols room

abbrev pub piece_goes : Told → Piece → ℕ → Owed
piece_goes t p room = let e = ended_of t p room in record { reason = e.why; taken = e.taken; words = e.said; told = with_heard t e.heard }

abbrev pub piece_uneven : Told → Owed
piece_uneven t = record { reason = reason 10; taken = 0; words = []; told = t }

-- "piece length not a multiple of 4: nothing taken", or marks that do not fit it; else symbol by symbol
unfoldable pub piece_owed : Told → Piece → ℕ → Owed
piece_owed t p room = cond p.fits (piece_goes t p room) (piece_uneven t)

pub record FinishOwed : Type 0 where
  pub reason : Reason
  pub words : List ℕ
  pub closes : Bool

-- the words of the answer that are not spoken yet
abbrev pub rest_of : Told → List ℕ
rest_of t = rest (speaker_of t) t.heard

abbrev pub finish_short : FinishOwed
finish_short = record { reason = reason 8; words = []; closes = false }

abbrev pub finish_done : Told → FinishOwed
finish_done t = record { reason = reason 0; words = rest_of t; closes = true }

-- "Need for 8: room .. at finish for all pending words"
unfoldable pub finish_owed : Told → ℕ → FinishOwed
finish_owed t room = cond (ltb room (length (rest_of t))) finish_short (finish_done t)
