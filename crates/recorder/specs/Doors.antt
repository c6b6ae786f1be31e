-- What the recorder's doors do to any record, as functions: the receiver's own (receiver/specs/Doors), with the records beside the words.
-- The code equals these functions; what they owe is said in specs/Recorded.
--   stopped                       nothing taken, written or recorded
--   taped_hearing, taped_finishing  a piece; a finish
use Rattle.std.specs.Prelude.{ℕ, cond, [], ltb, Result, Ok, Err, ⊤}
use Rattle.machine.specs.declared.Receiver.{Receiver}
use Rattle.machine.specs.Machine.{sound}
use Rattle.reasons.specs.declared.Why.{Why}
use Rattle.reasons.specs.declared.Why.TheVariants.{NoRoom, Closed, Uneven}
use Rattle.reasons.specs.Reason.{is_done}
use Rattle.receiver_meaning.specs.Piece.{Piece}
use Rattle.receiver.specs.Doors.{finishing}
use Rattle.record_write.specs.Front.{finish_records, space_of}
use Rattle.recorder.specs.Taping.{Ran, taping}

abbrev pub stopped : Receiver → Result ⊤ Why → Ran
stopped rx w = record { receiver = rx; taken = 0; words = []; records = []; why = w }

unfoldable pub taped_hearing : Receiver → Piece → ℕ → ℕ → Ran
taped_hearing rx p room bytes =
    cond (sound rx) (cond p.fits (taping p.symbols rx 0 [] [] room bytes) (stopped rx (Err Uneven))) (stopped rx (Err Closed))

-- ---- a finish

unfoldable pub taped_finishing : Receiver → ℕ → ℕ → Ran
taped_finishing rx room bytes =
    let h = finishing rx room in
    let rs = finish_records h.words in
    cond (is_done h.why)
    (cond (ltb bytes (space_of rs)) (stopped rx (Err NoRoom)) (record { receiver = h.receiver; taken = 0; words = h.words; records = rs; why = Ok tt }))
    (stopped rx h.why)
