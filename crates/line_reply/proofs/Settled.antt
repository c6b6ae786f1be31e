-- Settled: any two results that the promise of a line allows are equal, the page too. `fresh` promises an equation, which settles it by
-- itself.
use Prim.Native.Nat.{ℕ}
use mathlib.Core.Path.{◌≡◌, sym, ◌∙◌}
use mathlib.Core.List.{List}
use Rattle.page.proofs.Pages.{one-result}
use Rattle.line_reply.specs.declared.Lab.{Lab}
use Rattle.desk.specs.Desk.{Result}
use Rattle.line_reply.specs.Line.{Replies}

pub reply-settled : (g : Result) (lab : Lab) (page : List ℕ) (q r : Lab) (o p : List ℕ) → Replies g lab page q o → Replies g lab page r p → (q ≡ r) × (o ≡ p)
reply-settled g lab page q r o p a b =
    let e : q.desk ≡ r.desk = a.desk ∙ sym b.desk in
    let s : q.part ≡ r.part = a.part ∙ sym b.part in
    let t : q.on ≡ r.on = a.on ∙ sym b.on in
    let f = one-result a.puts b.puts in
    (λ i. record { desk = e i; part = s i; at = f.0 i; on = t i }, f.1)
