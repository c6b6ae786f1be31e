-- What the tests of the rows say of the numbers, both ways.
--   holds-is, is_held      none is more than a number of the row before and what the step between costs
--   zero_is, is_zero       those of the start are 0
--   none_is, is_none       none of a row is below a sum
use mathlib.Core.Path.{◌≡◌}
use mathlib.Core.Bool.{true}
use mathlib.Core.List.{List}
use Prim.Native.Nat.{ℕ, ◌+◌, ◌*◌, ◌/◌, ◌%◌, ◌≤◌, ◌<◌}
use native.Mathlib.Omega.{arith}
use borrow.Author.Tests.{le-leb, leb-true, eq-eqb, eqb-true}
use lib.ListN.{get_or}
use Rattle.wei.specs.State.{before, between}
use Rattle.card_sums.specs.Rows.{number_at, way_holds, holds, starts_at_zero, none_below}
use Rattle.card_sums.proofs.Every.{every-all, all-every}

module _ (ns : List ℕ) where
  module _ (at : ℕ) (costs : List ℕ) where
    abbrev pub Held : Type 0
    Held = (t k : ℕ) → t < 16 → k < 4 → number_at ns (at + 16) t ≤ number_at ns at (before t k) + get_or costs (between (before t k) t) 0

    pub holds-is : holds ns at costs ≡ true → Held
    unfolding holds way_holds
    holds-is e t k h g =
        let state : (4 * t + k) / 4 ≡ t = omega arith in
        let before-it : (4 * t + k) % 4 ≡ k = omega arith in
        leb-true _ _ (rw (state, before-it) at (every-all _ 64 e (4 * t + k) (omega arith)))

    pub is_held : Held → holds ns at costs ≡ true
    unfolding holds way_holds
    is_held r = all-every _ 64 (λ way h. le-leb _ _ (r (way / 4) (way % 4) (omega arith) (omega arith)))

  pub zero_is : starts_at_zero ns ≡ true → (s : ℕ) → s < 16 → get_or ns s 0 ≡ 0
  unfolding starts_at_zero
  zero_is e s h = eqb-true _ _ (every-all _ 16 e s h)

  pub is_zero : ((s : ℕ) → s < 16 → get_or ns s 0 ≡ 0) → starts_at_zero ns ≡ true
  unfolding starts_at_zero
  is_zero r = all-every _ 16 (λ s h. eq-eqb _ _ (r s h))

  pub none_is : (at w : ℕ) → none_below ns at w ≡ true → (s : ℕ) → s < 16 → w ≤ number_at ns at s
  unfolding none_below
  none_is at w e s h = leb-true _ _ (every-all _ 16 e s h)

  pub is_none : (at w : ℕ) → ((s : ℕ) → s < 16 → w ≤ number_at ns at s) → none_below ns at w ≡ true
  unfolding none_below
  is_none at w r = all-every _ 16 (λ s h. le-leb _ _ (r s h))
