-- The place of the least number. One more asked: it is the new place, or the place so far.
--   least-less, least_kept, least-min   one number more
--   end_below, lowest-le     where the least of sixteen stands, and that it is the least
use mathlib.Core.Path.{◌≡◌, sym, ap, ◌∙◌}
use Prim.Native.Nat.{ℕ, suc, ◌+◌, ◌-◌, ◌≤◌, ◌<◌, min}
use native.Mathlib.Omega.{arith}
use native.Mathlib.Decide.{dec_lt}
use mathlib.Core.List.{List}
use lib.Dec.{ltb}
use lib.ListN.{get_or}
use borrow.Author.Tests.{lt-ltb, le-ltb}
use Rattle.trellis.specs.Pick.{keep_n, least}
use Rattle.trellis.proofs.Least.{least-is}
use Rattle.sums.specs.Sums.{end_of, lowest}

-- one number more, at which f is less or is not
module _ (f : ℕ → ℕ) (s b : ℕ) (some : 1 ≤ s) (so_far : b ≡ least f (s - 1)) where
  next-least : least f (s + 1 - 1) ≡ keep_n (ltb (f s) (f b)) b s
  unfolding least
  next-least =
      let up : s + 1 - 1 ≡ suc (s - 1) = omega arith in
      let here : suc (s - 1) ≡ s = omega arith in
      ap (least f) up ∙ rw (here, ← so_far)

  pub least-less : f s < f b → s ≡ least f (s + 1 - 1)
  least-less h = sym (next-least ∙ rw (lt-ltb _ _ h))

  pub least_kept : f b ≤ f s → b ≡ least f (s + 1 - 1)
  least_kept h = sym (next-least ∙ rw (le-ltb _ _ h))

  -- the less of the two
  pub least-min : min (f b) (f s) ≡ f (least f (s + 1 - 1))
  least-min = go (dec_lt (f s) (f b))
    where
      go : Dec (f s < f b) → min (f b) (f s) ≡ f (least f (s + 1 - 1))
      go (yes h) = let e : min (f b) (f s) ≡ f s = omega arith in e ∙ ap f (least-less h)
      go (no h) = let e : min (f b) (f s) ≡ f b = omega arith in e ∙ ap f (least_kept (omega arith))

pub end_below : (l : List ℕ) → end_of l < 16
unfolding end_of
end_below l = omega (arith, (least-is (λ i. get_or l i 0) 15).low)

pub lowest-le : (l : List ℕ) (s : ℕ) → s < 16 → lowest l ≤ get_or l s 0
unfolding lowest end_of
lowest-le l s h = (least-is (λ i. get_or l i 0) 15).is-least s (omega arith)
