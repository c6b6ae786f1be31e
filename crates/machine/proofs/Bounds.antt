-- What the states keep fits 32 bits, for good (02, Wish 6). A reached state keeps at most 1,048,576, twice what a symbol counts for at most;
-- with the cost of one more symbol that is at most 1,572,864, in line units squared. `limit`, which a state keeps that nothing reaches, is
-- above both, so that it loses every comparison. Named start and free, missing points and either map: nothing is asked of what was heard.
--   Lowest sums    some state keeps 0
--   kept-most      what a reached state keeps; zero_is, that state's row
--   room           one more symbol finds room
--   lowered-most   no state keeps more than `limit`; lowered-lowest, one keeps 0 again where one is reached
use mathlib.Core.Path.{◌≡◌, refl, ap, ◌∙◌}
use mathlib.Core.Bool.{Bool, true, false, cond}
use mathlib.Core.List.{List}
use Prim.Native.Nat.{ℕ, ◌-◌, ◌≤◌, ◌<◌}
use native.Mathlib.Omega.{arith}
use lib.Dec.{ltb}
use lib.ListN.{get_or}
use borrow.Author.Tests.{lt-ltb, ltb-true}
use Rattle.trellis.specs.Best.{alive}
use Rattle.trellis.specs.Cells.{Off}
use Rattle.trellis.specs.Measure.{Start, Two}
use Rattle.trellis.proofs.Spread.{wei-mixes}
use Rattle.trellis.proofs.Spread as spread
use Rattle.wei.specs.State.{between}
use Rattle.nearest.specs.declared.Received.{Received}
use Rattle.nearest.specs.Line.{line_measure}
use Rattle.nearest.specs.Found.{weighed_of}
use Rattle.nearest.proofs.Laws.{far-most, costs-most}
use Rattle.select.specs.Select.{limit, sixteen, lowered, row_of}
use Rattle.sums.specs.Sums.{end_of, lowest}
use Rattle.sums.proofs.Least.{end_below, lowest-le}
use Rattle.select.proofs.Lists.{sixteen-at, sixteen-most}
use Rattle.receiver_meaning.proofs.Search.{search_of, laws}
use Rattle.machine.proofs.Arrivals.{Room}
use Rattle.points.specs.declared.Accord.{Accord}

pub record Lowest (sums : List ℕ) : Type 0 where
  pub state : ℕ
  pub below : state < 16
  pub is-least : get_or sums state 0 ≡ 0

module _ (ac : Accord) (b : Start) (ys : List (Two Received)) (sums : List ℕ) (m : ℕ) (off : Off (search_of ac b) ys m (row_of sums)) (low : Lowest sums) where
  row_is : (s : ℕ) → get_or sums s 0 < limit → row_of sums s ≡ alive (get_or sums s 0) tt
  row_is s k = rw (lt-ltb (get_or sums s 0) limit k)

  pub zero_is : row_of sums low.state ≡ alive 0 tt
  zero_is = row_is low.state (omega (arith, low.is-least)) ∙ ap (λ (v : ℕ). alive v tt) low.is-least

  pub kept-most : (s : ℕ) → s < 16 → get_or sums s 0 < limit → get_or sums s 0 ≤ 1048576
  kept-most s h k =
      spread.kept-most (search_of ac b) (laws ac b) ys m (row_of sums) off low.state low.below zero_is 524288 (far-most ac) (wei-mixes ac.u (line_measure ac) b) s (get_or sums s 0) h (row_is s k)

  pub room : (y : Two Received) → Room sums (weighed_of ac y).costs
  room y s t h k = omega (arith, kept-most s h k, costs-most ac y (between s t))

-- ── one more symbol ──
pub lowered-most : (sums : List ℕ) (s : ℕ) → get_or (sixteen (lowered sums)) s 0 ≤ limit
unfolding lowered
lowered-most sums = sixteen-most (lowered sums) limit (λ s. go (get_or sums s 0) (ltb (get_or sums s 0) limit) refl)
  where
    go : (v : ℕ) (c : Bool) → ltb v limit ≡ c → cond c (v - lowest sums) limit ≤ limit
    go v true e = omega (arith, ltb-true v limit e)
    go v false e = omega arith

pub lowered-lowest : (sums : List ℕ) (s : ℕ) → s < 16 → get_or sums s 0 < limit → Lowest (sixteen (lowered sums))
unfolding lowered lowest
lowered-lowest sums s h k =
    let e : ℕ = end_of sums in
    let l : get_or sums e 0 < limit = omega (arith, lowest-le sums s h) in
    let z : lowered sums e ≡ get_or sums e 0 - get_or sums e 0 = rw (lt-ltb (get_or sums e 0) limit l) in
    record { state = e; below = end_below sums; is-least = omega (arith, sixteen-at (lowered sums) e (end_below sums)) }
