-- Settled: any two results that the promise of a request allows are equal, the page too. `closed` promises an equation, which settles it
-- by itself.
use Prim.Native.Nat.{ℕ}
use mathlib.Core.Path.{◌≡◌, sym, ◌∙◌}
use mathlib.Core.List.{List}
use Rattle.page.proofs.Pages.{one-result}
use Rattle.requests.specs.declared.Request.{Request}
use Rattle.requests.specs.Named.{Named}
use Rattle.desk.specs.declared.Desk.{Desk}
use Rattle.desk.specs.declared.Done.{Done}
use Rattle.desk.specs.Desk.{Acts}

pub act-settled : (d : Desk) (asked : Request) (l : Named) (page : List ℕ) (at : ℕ) (q r : Done) (o p : List ℕ) → Acts d asked l page at q o → Acts d asked l page at r p → (q ≡ r) × (o ≡ p)
act-settled d asked l page at q r o p a b =
    let e : q.desk ≡ r.desk = a.desk ∙ sym b.desk in
    let f = one-result a.puts b.puts in
    (λ i. record { desk = e i; at = f.0 i }, f.1)
