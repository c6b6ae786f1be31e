-- Settled: any two results that a promise of the recorder allows are equal, output and bytes too.
use mathlib.Core.Path.{◌≡◌, sym, ◌∙◌}
use mathlib.Core.List.{List}
use Prim.Native.Nat.{ℕ}
use lib.ListN.{length}
use Rattle.points.specs.declared.Accord.{Accord}
use Rattle.machine.specs.declared.Receiver.{Receiver}
use Rattle.reasons.proofs.Apart.{given-one}
use Rattle.receiver_meaning.specs.Piece.{Piece}
use Rattle.recorder.specs.declared.Taped.{Taped}
use Rattle.recorder.specs.Taping.{Ran}
use Rattle.recorder.specs.Doors.{taped_hearing, taped_finishing}
use Rattle.recorder.specs.Promise.{OpenTaped, Is, Tapes, FinishTaped}

pub opens-settled : (k : Accord) (w s : ℕ) (bytes : List ℕ) (n m : ℕ) (b c : List ℕ) → OpenTaped k w s bytes n b → OpenTaped k w s bytes m c → (n ≡ m) × (b ≡ c)
opens-settled k w s bytes n m b c h i = (h.number ∙ sym i.number, h.bytes-are ∙ sym i.bytes-are)

is-settled : (ran : Ran) (out bytes : List ℕ) (r s : Taped) (o p b c : List ℕ) → Is ran out bytes r o b → Is ran out bytes s p c → (r ≡ s) × (o ≡ p) × (b ≡ c)
is-settled ran out bytes r s o p b c h k =
    let e : r.receiver ≡ s.receiver = h.receiver ∙ sym k.receiver in
    let f : r.taken ≡ s.taken = h.taken ∙ sym k.taken in
    let g : r.written ≡ s.written = h.written ∙ sym k.written in
    let q : r.recorded ≡ s.recorded = h.recorded ∙ sym k.recorded in
    let w : r.why ≡ s.why = given-one r.why s.why (h.given ∙ sym k.given) in
    (λ i. record { receiver = e i; taken = f i; written = g i; recorded = q i; why = w i }, h.output ∙ sym k.output, h.bytes-are ∙ sym k.bytes-are)

pub tapes-settled : (rx : Receiver) (q : Piece) (out bytes : List ℕ) (r s : Taped) (o p b c : List ℕ) →
    Tapes rx q out bytes r o b → Tapes rx q out bytes s p c → (r ≡ s) × (o ≡ p) × (b ≡ c)
tapes-settled rx q out bytes r s o p b c h k = is-settled (taped_hearing rx q (length out) (length bytes)) out bytes r s o p b c h.always k.always

pub finishes-settled : (rx : Receiver) (out bytes : List ℕ) (r s : Taped) (o p b c : List ℕ) →
    FinishTaped rx out bytes r o b → FinishTaped rx out bytes s p c → (r ≡ s) × (o ≡ p) × (b ≡ c)
finishes-settled rx out bytes r s o p b c h k = is-settled (taped_finishing rx (length out) (length bytes)) out bytes r s o p b c h.always k.always
