-- Settled: any two results that the promise of an opening allows are equal.
use mathlib.Core.Path.{◌≡◌, sym, ◌∙◌}
use Prim.Native.Nat.{ℕ}
use Rattle.points.specs.declared.Accord.{Accord}
use Rattle.reasons.proofs.Apart.{given-one}
use Rattle.openings.specs.declared.Start.{Start}
use Rattle.openings.specs.declared.Opened.{Opened}
use Rattle.openings.specs.Opening.{Opens}

pub opens-settled : (ac : Accord) (w : ℕ) (b : Start) (r s : Opened) → Opens ac w b r → Opens ac w b s → r ≡ s
opens-settled ac w b r s h k =
    let e : r.receiver ≡ s.receiver = h.always-receiver ∙ sym k.always-receiver in
    let f : r.why ≡ s.why = given-one r.why s.why (h.always-given ∙ sym k.always-given) in
    λ i. record { receiver = e i; why = f i }
