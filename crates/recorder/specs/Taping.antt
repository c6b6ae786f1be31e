-- What the recorder does with symbols, to any record, as functions: the machine's own (pieces/specs/Running), with the records beside the
-- words. The code equals these functions; what they owe is said in recorder/specs/Recorded.
--   taped_at rx y room bytes      one symbol: what the machine says to it, and an 8 where its records have no room
--   records_of y o                the records that its outcome leaves
--   Ran, taping                  symbol by symbol, up to the first refusal, after the words ws, the records rs and so many symbols
use Rattle.std.specs.Prelude.{ℕ, ◌+◌, ◌-◌, cond, ◌&&◌, List, [], ◌∷◌, ◌++◌, ltb, length, Result, Ok, Err, ⊤}
use Rattle.trellis.specs.Measure.{Two}
use Rattle.nearest.specs.declared.Received.{Received}
use Rattle.machine.specs.declared.Receiver.{Receiver}
use Rattle.machine.specs.Machine.{Outcome, refused}
use Rattle.reasons.specs.declared.Why.{Why}
use Rattle.reasons.specs.declared.Why.TheVariants.{NoRoom}
use Rattle.reasons.specs.Reason.{is_done}
use Rattle.pieces.specs.Running.{symbol_at}
use Rattle.records.specs.Values.{Entry}
use Rattle.record_write.specs.Front.{symbol_records, space_of}

unfoldable pub taped_at : Receiver → Two Received → ℕ → ℕ → Outcome
taped_at rx y room bytes =
    let o = symbol_at rx y room in
    cond (is_done o.why && ltb bytes (space_of (symbol_records y o.words))) (refused rx (Err NoRoom)) o

abbrev pub records_of : Two Received → Outcome → List Entry
records_of y o = cond (is_done o.why) (symbol_records y o.words) []

pub record Ran : Type 0 where
  pub receiver : Receiver
  pub taken : ℕ
  pub words : List ℕ
  pub records : List Entry
  pub why : Result ⊤ Why

unfoldable pub taping : List (Two Received) → Receiver → ℕ → List ℕ → List Entry → ℕ → ℕ → Ran
taping [] rx n ws rs room bytes = record { receiver = rx; taken = n; words = ws; records = rs; why = Ok tt }
taping (y ∷ ys) rx n ws rs room bytes =
    let o = taped_at rx y (room - length ws) (bytes - space_of rs) in
    cond (is_done o.why)
    (taping ys o.receiver (n + 1) (ws ++ o.words) (rs ++ symbol_records y o.words) room bytes)
    (record { receiver = rx; taken = n; words = ws; records = rs; why = o.why })
