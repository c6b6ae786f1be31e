-- Settled: any two results that the promise of a line allows are equal, the bytes and the page too.
use Prim.Native.Nat.{ℕ}
use mathlib.Core.Path.{◌≡◌, sym, ◌∙◌}
use mathlib.Core.List.{List}
use Rattle.page.proofs.Pages.{one-result}
use Rattle.record_text.specs.declared.Noted.{Noted}
use Rattle.record_text.specs.Note.{Note, Notes}

pub notes-settled : (g : Note) (bytes page : List ℕ) (q r : Noted) (b c o p : List ℕ) → Notes g bytes page q b o → Notes g bytes page r c p → (q ≡ r) × (b ≡ c) × (o ≡ p)
notes-settled g bytes page q r b c o p h k =
    let e : q.receiver ≡ r.receiver = h.receiver ∙ sym k.receiver in
    let f : q.begun ≡ r.begun = h.begun ∙ sym k.begun in
    let n : q.recorded ≡ r.recorded = h.recorded ∙ sym k.recorded in
    let z : q.ends ≡ r.ends = h.ends ∙ sym k.ends in
    let s = one-result h.puts k.puts in
    (λ i. record { receiver = e i; begun = f i; recorded = n i; at = s.0 i; ends = z i }, h.bytes-are ∙ sym k.bytes-are, s.1)
