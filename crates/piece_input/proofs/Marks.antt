-- The marks of a piece: what fits is of whole symbols, and the mark of one symbol.
--   fits-even               what fits is of whole symbols
--   mark-from, later-from   the mark at a place, and those after it
use mathlib.Core.Path.{◌≡◌, refl, ap, ◌∙◌}
use mathlib.Core.Bool.{Bool, true, false}
use mathlib.Core.List.{List, [], ◌∷◌}
use Prim.Native.Nat.{ℕ, zero, suc, ◌+◌, ◌*◌, ◌%◌}
use native.Mathlib.Omega.{arith}
use borrow.Author.Tests.{eqb-true}
use lib.Dec.{eqb}
use lib.ListN.{get_or, length, drop}
use Rattle.lists.specs.UpTo.{all_up_to}
use Rattle.lists.proofs.UpTo.{and_both}
use Rattle.receiver_meaning.specs.Piece.{mark_of, later_marks, fits_with}

module _ (ms : List ℕ) (n : ℕ) where
  -- whatever fits is of whole symbols
  pub fits-even : (marked : Bool) → fits_with marked ms n ≡ true → n % 4 ≡ 0
  fits-even true e = omega (arith, eqb-true n (4 * length ms) (and_both (eqb n (4 * length ms)) (all_up_to 3 ms) e).0)
  fits-even false e = eqb-true (n % 4) 0 e

-- ---- the mark of one symbol

-- the marks from the place j on
pub mark-from : (ms : List ℕ) (j : ℕ) → mark_of (drop j ms) ≡ get_or ms j 0
mark-from [] zero = refl
mark-from [] (suc j) = refl
mark-from (m ∷ ms) zero = refl
mark-from (m ∷ ms) (suc j) = mark-from ms j

pub later-from : (ms : List ℕ) (j : ℕ) → later_marks (drop j ms) ≡ drop (j + 1) ms
later-from ms j = let e : suc j ≡ j + 1 = omega arith in go ms j ∙ ap (λ (n : ℕ). drop n ms) e
  where
    go : (ms : List ℕ) (j : ℕ) → later_marks (drop j ms) ≡ drop (suc j) ms
    go [] zero = refl
    go [] (suc j) = refl
    go (m ∷ ms) zero = refl
    go (m ∷ ms) (suc j) = go ms j
