-- A bound on every number of a list, as the code tests it one by one.
--   and_both              both of two tests
--   all-up-to             a bound on every place passes the test; up-to-all, what the test says of a place
--   up-to-decides         the test decides it of all
use mathlib.Core.Path.{◌≡◌, refl}
use mathlib.Core.Bool.{Bool, true, false, ◌&&◌}
use mathlib.Core.List.{List, [], ◌∷◌}
use Prim.Native.Nat.{ℕ, zero, suc, ◌≤◌}
use native.Mathlib.Omega.{arith}
use lib.Dec.{leb}
use lib.ListN.{get_or}
use borrow.Author.Tests.{le-leb, leb-true}
use Rattle.std.specs.Bool.{Decides}
use Rattle.std.specs.List.{All}
use Rattle.std.proofs.lemmas.Bool.Decides.{Decides-by_and}
use Rattle.lists.specs.UpTo.{all_up_to}

pub and_both : (a b : Bool) → (a && b) ≡ true → (a ≡ true) × (b ≡ true)
and_both true b e = (refl, e)
and_both false b e = let z : ◌≡◌ {A = ℕ} 0 1 = cc in absurd (omega arith)

pub all-up-to : (m : ℕ) (l : List ℕ) → ((i : ℕ) → get_or l i 0 ≤ m) → all_up_to m l ≡ true
unfolding all_up_to
all-up-to m [] h = refl
all-up-to m (x ∷ l) h = rw (le-leb x m (h zero)) (all-up-to m l (λ i. h (suc i)))

pub up-to-all : (m : ℕ) (l : List ℕ) → all_up_to m l ≡ true → (i : ℕ) → get_or l i 0 ≤ m
unfolding all_up_to
up-to-all m [] e i = omega arith
up-to-all m (x ∷ l) e zero = leb-true x m (and_both (leb x m) (all_up_to m l) e).0
up-to-all m (x ∷ l) e (suc i) = up-to-all m l (and_both (leb x m) (all_up_to m l) e).1 i

pub up-to-decides : (m : ℕ) (l : List ℕ) → Decides (all_up_to m l) (All (λ x. x ≤ m) l)
unfolding all_up_to
up-to-decides m l = Decides-by_and (λ x. leb x m) (λ x. x ≤ m) (all_up_to m) (λ x. (leb-true x m, le-leb x m)) refl (λ x xs. refl) l
