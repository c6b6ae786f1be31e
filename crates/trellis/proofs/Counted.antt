-- What counted distances do to sums (02, Wish 8): no received symbol weighs more than 524,288, whatever was heard.
--   counted-rises   no smaller distance counts for more
--   counted-most    a distance counts for at most the cap
--   most            a symbol counts for at most twice that
--   as_before       where both points are within the cap, a symbol counts for its squared distance, as in 01
--   outweighs       a received symbol sets no candidate behind another by more than that
--   one-spark       whatever is heard for one symbol, the sum of every sequence is that of any other symbol in its place, or at most
--                   that much more
use mathlib.Core.Path.{◌≡◌}
use mathlib.Core.List.{List, [], ◌∷◌, ◌++◌}
use Prim.Native.Nat.{ℕ, ◌+◌, ◌≤◌}
use native.Mathlib.Omega.{arith}
use Rattle.trellis.specs.Code.{Path, begin, step, cost}
use Rattle.trellis.specs.Measure.{Start, Two, cap, counted, first_far, second_far, far_of, pairs, wei_code}
use Rattle.trellis.proofs.Pairs.{Rises}
use Rattle.wei.specs.Symbol.{Symbol}

pub counted-rises : Rises counted
unfolding counted
counted-rises a b h = omega arith

pub counted-most : (n : ℕ) → counted n ≤ cap
unfolding counted
counted-most n = omega arith

module _ {P : Type 0} (d : P → ℕ → ℕ → ℕ) where
  pub most : (y : Two P) (c : Symbol) → far_of P d counted y c ≤ 524288
  unfolding far_of
  most y c = omega (arith, counted-most (first_far P d y c), counted-most (second_far P d y c))

  pub as_before : (y : Two P) (c : Symbol) → first_far P d y c ≤ cap → second_far P d y c ≤ cap → far_of P d counted y c ≡ first_far P d y c + second_far P d y c
  unfolding far_of counted
  as_before y c h k = omega arith

  pub outweighs : (y : Two P) (b c : Symbol) → far_of P d counted y b ≤ far_of P d counted y c + 524288
  outweighs y b c = omega (arith, most y b)

  module _ (u : ℕ) (b : Start) where
    pub one-spark : (xs zs : List (Two P)) (x y : Two P) (p : Path Symbol) →
        cost (wei_code u (pairs P d counted) b) (zs ++ (x ∷ xs)) p ≤ cost (wei_code u (pairs P d counted) b) (zs ++ (y ∷ xs)) p + 524288
    one-spark xs [] x y (begin s) = omega arith
    one-spark xs [] x y (step p c s) = omega (arith, most x c)
    one-spark xs (z ∷ zs) x y (begin s) = omega arith
    one-spark xs (z ∷ zs) x y (step p c s) = omega (arith, one-spark xs zs x y p)
