-- Chunks one after another are what a reader gave.
--   handed-more      one chunk more, and one step more
use mathlib.Core.Path.{◌≡◌, sym, ap, ◌∙◌}
use mathlib.Core.List.{List, [], ◌∷◌, ◌++◌, append-nil, append_assoc}
use Prim.Native.Nat.{ℕ}
use Rattle.std.specs.Borrow.{Bor}
use Rattle.std.specs.Prelude.{Option, Some, None}
use Rattle.std.specs.List.{FoldsTo}
use Rattle.std.specs.Io.KnownBytes.{Consumes}
use Rattle.std.proofs.lemmas.Fn.{FoldsTo-push}
use Rattle.edge.specs.Chunks.{joined}

joined-more : (bs : List (Bor (List ℕ))) (b : Bor (List ℕ)) → joined (bs ++ b ∷ []) ≡ joined bs ++ b.now
joined-more [] b = append-nil b.now
joined-more (c ∷ bs) b = ap (λ (l : List ℕ). c.now ++ l) (joined-more bs b) ∙ sym (append_assoc c.now (joined bs) b.now)

consumes-more : (o p q : Option (List ℕ)) (bs : List (Bor (List ℕ))) (b : Bor (List ℕ)) → Consumes o p (joined bs) → Consumes p q b.now → Consumes o q (joined (bs ++ b ∷ []))
consumes-more None p q bs b h k = tt
consumes-more (Some xs) None q bs b h k = elim h [ ]
consumes-more (Some xs) (Some ys) None bs b h k = elim k [ ]
consumes-more (Some xs) (Some ys) (Some zs) bs b h k =
    h ∙ ap (λ (l : List ℕ). joined bs ++ l) k ∙ sym (append_assoc (joined bs) b.now zs) ∙ ap (λ (l : List ℕ). l ++ zs) (sym (joined-more bs b))

pub handed-more : {P : Type 0} (R : P → Bor (List ℕ) → P → Type 0) (p : P) (bs : List (Bor (List ℕ))) (q : P) (b : Bor (List ℕ)) (u : P) (old now new : Option (List ℕ))
    → FoldsTo R p bs q → R q b u → Consumes old now (joined bs) → Consumes now new b.now → (cs : List (Bor (List ℕ))) × FoldsTo R p cs u × Consumes old new (joined cs)
handed-more R p bs q b u old now new f s h k = (bs ++ b ∷ [], FoldsTo-push R p bs q b u f s, consumes-more old now new bs b h k)
