-- What one recorded symbol leaves: refused, nothing written and the receiver as it was; taken, a receiver that is sound again.
use mathlib.Core.Path.{◌≡◌, refl}
use mathlib.Core.Bool.{Bool, true, false, cond, ◌&&◌}
use mathlib.Core.List.{[]}
use Prim.Native.Nat.{ℕ}
use lib.Dec.{ltb}
use Rattle.std.specs.Prelude.{Err}
use Rattle.trellis.specs.Measure.{Two}
use Rattle.nearest.specs.declared.Received.{Received}
use Rattle.machine.specs.declared.Receiver.{Receiver}
use Rattle.machine.specs.Machine.{Outcome, refused, sound}
use Rattle.reasons.specs.declared.Why.TheVariants.{NoRoom}
use Rattle.reasons.specs.Reason.{is_done}
use Rattle.pieces.specs.Running.{symbol_at}
use Rattle.pieces.proofs.Kept.{symbol-refused, symbol-sound}
use Rattle.record_write.specs.Front.{symbol_records, space_of}
use Rattle.recorder.specs.Taping.{taped_at}

module _ (rx : Receiver) (y : Two Received) (room bytes : ℕ) where
  abbrev said : Outcome
  said = symbol_at rx y room

  abbrev Left : Outcome → Type 0
  Left o = is_done o.why ≡ false → (o.words ≡ []) × (o.receiver ≡ rx)

  pub taped-refused : Left (taped_at rx y room bytes)
  unfolding taped_at
  taped-refused = go (is_done said.why && ltb bytes (space_of (symbol_records y said.words))) where
    go : (b : Bool) → Left (cond b (refused rx (Err NoRoom)) said)
    go true d = (refl, refl)
    go false d = symbol-refused rx y room d

module _ (rx : Receiver) (f : sound rx ≡ true) (y : Two Received) (room bytes : ℕ) where
  pub taped-sound : sound (taped_at rx y room bytes).receiver ≡ true
  unfolding taped_at
  taped-sound = go (is_done (symbol_at rx y room).why && ltb bytes (space_of (symbol_records y (symbol_at rx y room).words))) where
    go : (b : Bool) → sound (cond b (refused rx (Err NoRoom)) (symbol_at rx y room)).receiver ≡ true
    go true = f
    go false = symbol-sound rx f y room
