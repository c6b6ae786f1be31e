-- What the doors do to any record, as functions: a run of symbols (pieces/specs/Running) behind the tests that come first. The code equals
-- these functions; what they owe is said in receiver_meaning/specs/Owed.
--   hearing rx p room         a piece: 9, 10, then its symbols
--   finishing rx room         finish: 9, 8, or the pending words of the answer and a closed receiver
use Rattle.std.specs.Prelude.{ℕ, cond, [], ltb, Result, Ok, Err, ⊤}
use Rattle.machine.specs.declared.Receiver.{Receiver}
use Rattle.reasons.specs.declared.Why.{Why}
use Rattle.reasons.specs.declared.Why.TheVariants.{NoRoom, Closed, Uneven}
use Rattle.machine.specs.Machine.{shut, last_words, sound}
use Rattle.receiver_meaning.specs.Piece.{Piece}
use Rattle.pieces.specs.Running.{running}
pub use Rattle.pieces.specs.Running.{Ran}

-- ---- a piece

abbrev pub stopped : Receiver → Result ⊤ Why → Ran
stopped rx w = record { receiver = rx; taken = 0; words = []; why = w }

-- "A piece: 9, 10, then symbol by symbol"
unfoldable pub hearing : Receiver → Piece → ℕ → Ran
hearing rx p room =
    cond (sound rx) (cond p.fits (running p.symbols rx 0 [] room) (stopped rx (Err Uneven))) (stopped rx (Err Closed))

-- ---- finish

-- "Finish: 9, 8"; "Finish writes the pending words of the answer and closes the receiver"
unfoldable pub finishing : Receiver → ℕ → Ran
finishing rx room =
    cond (sound rx)
    (cond (ltb room rx.core.pending) (stopped rx (Err NoRoom)) (record { receiver = shut; taken = 0; words = last_words rx; why = Ok tt }))
    (stopped rx (Err Closed))
