-- Settled: any two results that the promise of `hear` or of `finish` allows are equal, the lent output too.
use mathlib.Core.Path.{◌≡◌, sym, ◌∙◌}
use mathlib.Core.List.{List}
use Prim.Native.Nat.{ℕ}
use lib.ListN.{length}
use Rattle.machine.specs.declared.Receiver.{Receiver}
use Rattle.receiver.specs.declared.Answer.{Answer}
use Rattle.receiver.specs.Doors.{Ran, hearing, finishing}
use Rattle.reasons.proofs.Apart.{given-one}
use Rattle.receiver_meaning.specs.Piece.{Piece}
use Rattle.receiver.specs.Promise.{Is, Hears, Finishes}

pub is-settled : (ran : Ran) (out : List ℕ) (r s : Answer) (o p : List ℕ) → Is ran out r o → Is ran out s p → (r ≡ s) × (o ≡ p)
is-settled ran out r s o p h k =
    let e : r.receiver ≡ s.receiver = h.receiver ∙ sym k.receiver in
    let f : r.taken ≡ s.taken = h.taken ∙ sym k.taken in
    let g : r.written ≡ s.written = h.written ∙ sym k.written in
    let w : r.why ≡ s.why = given-one r.why s.why (h.given ∙ sym k.given) in
    (λ i. record { receiver = e i; taken = f i; written = g i; why = w i }, h.output ∙ sym k.output)

pub hears-settled : (rx : Receiver) (q : Piece) (out : List ℕ) (r s : Answer) (o p : List ℕ) → Hears rx q out r o → Hears rx q out s p → (r ≡ s) × (o ≡ p)
hears-settled rx q out r s o p h k = is-settled (hearing rx q (length out)) out r s o p h.always k.always

pub finishes-settled : (rx : Receiver) (out : List ℕ) (r s : Answer) (o p : List ℕ) → Finishes rx out r o → Finishes rx out s p → (r ≡ s) × (o ≡ p)
finishes-settled rx out r s o p h k = is-settled (finishing rx (length out)) out r s o p h.always k.always
