-- What the symbols of a piece do to any record, as functions: the machine behind the test of a symbol's range, up to the first refusal. The
-- code equals these functions; what they owe is said in receiver_meaning/specs/Owed.
--   symbol_at rx y room       one symbol: 5 first, then what `taking` says
--   Ran, running             symbol by symbol, up to the first refusal, after the words ws and so many symbols
--   Written words out o      o is the output `out` with the words in its first places, and all else unchanged
use Rattle.std.specs.Prelude.{ℕ, ◌+◌, ◌-◌, ◌≡◌, cond, List, [], ◌∷◌, ◌++◌, ltb, length, drop, Result, Ok, Err, ⊤}
use Rattle.trellis.specs.Measure.{Two}
use Rattle.nearest.specs.declared.Received.{Received}
use Rattle.machine.specs.declared.Receiver.{Receiver}
use Rattle.machine.specs.Machine.{Outcome, refused, taking}
use Rattle.reasons.specs.declared.Why.{Why}
use Rattle.reasons.specs.declared.Why.TheVariants.{BadSample}
use Rattle.reasons.specs.Reason.{is_done}
use Rattle.receiver_meaning.specs.Told.{fault_of}

unfoldable pub symbol_at : Receiver → Two Received → ℕ → Outcome
symbol_at rx y room = cond (ltb (fault_of y) 4) (refused rx (Err (BadSample (fault_of y)))) (taking rx y room)

pub record Ran : Type 0 where
  pub receiver : Receiver
  pub taken : ℕ
  pub words : List ℕ
  pub why : Result ⊤ Why

unfoldable pub running : List (Two Received) → Receiver → ℕ → List ℕ → ℕ → Ran
running [] rx n ws room = record { receiver = rx; taken = n; words = ws; why = Ok tt }
running (y ∷ ys) rx n ws room =
    let o = symbol_at rx y (room - length ws) in
    cond (is_done o.why) (running ys o.receiver (n + 1) (ws ++ o.words) room) (record { receiver = rx; taken = n; words = ws; why = o.why })

-- "Released words go straight after those already written by that call. All other places of the output stay unchanged"
abbrev pub Written : List ℕ → List ℕ → List ℕ → Type 0
Written words out o = o ≡ words ++ drop (length words) out
