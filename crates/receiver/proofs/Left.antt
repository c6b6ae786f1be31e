-- What calls leave: a closed receiver is answered 9 and stays closed; a refused finish leaves receiver and output as they stood.
--   shut-hears, shut-finishes   a closed receiver
--   finishes-left               a refused finish
use mathlib.Core.Path.{◌≡◌, refl, ap}
use mathlib.Core.Bool.{Bool, true, false, cond}
use mathlib.Core.List.{List}
use Prim.Native.Nat.{ℕ}
use lib.Dec.{ltb}
use lib.ListN.{length}
use Rattle.std.specs.Prelude.{Ok, Err}
use Rattle.machine.specs.declared.Receiver.{Receiver}
use Rattle.machine.specs.Machine.{shut, last_words, sound}
use Rattle.reasons.specs.declared.Why.TheVariants.{NoRoom, Closed}
use Rattle.reasons.specs.Reason.{Reason, given_of}
use Rattle.receiver_meaning.specs.Piece.{Piece}
use Rattle.receiver.specs.declared.Answer.{Answer}
use Rattle.receiver.specs.Doors.{stopped, hearing, finishing}
use Rattle.receiver.specs.Promise.{Is, Finishes}

shut-sound : sound shut ≡ false
unfolding sound shut
shut-sound = refl

pub shut-hears : (p : Piece) (room : ℕ) → hearing shut p room ≡ stopped shut (Err Closed)
unfolding hearing
shut-hears p room = rw shut-sound

pub shut-finishes : (room : ℕ) → finishing shut room ≡ stopped shut (Err Closed)
unfolding finishing
shut-finishes room = rw shut-sound

pub finishes-left : (rx : Receiver) (out : List ℕ) (r : Answer) (o : List ℕ) → Finishes rx out r o → ((given_of r.why).number ≡ 0 → ⊥) → (r.receiver ≡ rx) × (o ≡ out)
unfolding finishing
finishes-left rx out r o p z = go (sound rx) (ltb (length out) rx.core.pending) p.always
  where
    go : (i j : Bool) → Is (cond i (cond j (stopped rx (Err NoRoom)) (record { receiver = shut; taken = 0; words = last_words rx; why = Ok tt })) (stopped rx (Err Closed))) out r o → (r.receiver ≡ rx) × (o ≡ out)
    go false j k = (k.receiver, k.output)
    go true true k = (k.receiver, k.output)
    go true false k = absurd (z (ap (λ (g : Reason). g.number) k.given))
