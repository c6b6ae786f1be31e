-- The nearer of two types is the theory's choice, where the distances are what those of the nearest points count for.
--   summable     what two searches find adds up
--   weighed      the rows of the two searches and of the choices are what `weigh` has to answer
use mathlib.Core.Path.{◌≡◌, refl, ap, ap₂}
use mathlib.Core.Bool.{Bool, true, false}
use Prim.Native.Nat.{ℕ, ◌+◌, ◌<◌}
use native.Mathlib.Omega.{arith}
use lib.Dec.{ltb}
use lib.ListN.{get_or}
use Rattle.wei.specs.Label.{turn_of, second_label}
use Rattle.wei.proofs.Labels.{second_below}
use Rattle.points.specs.declared.Accord.{Accord}
use Rattle.trellis.specs.Measure.{Two, counted}
use Rattle.trellis.specs.Pick.{keep_n, least, near, gap_of, type_sum, best_i3}
use Rattle.nearest.specs.declared.Received.{Received}
use Rattle.nearest.specs.declared.Nearest.{Nearest}
use Rattle.subset_types.specs.declared.Nearer.{Nearer}
use Rattle.subset_types.specs.declared.Choices.{Choices}
use Rattle.distance.specs.Found.{four}
use Rattle.nearest.specs.Line.{line_distance}
use Rattle.nearest.specs.Found.{heard_as, nearest_of, cost_of, weighed_of}
use Rattle.subset_types.specs.Types.{Summable, sum_of, nearer_of, choices_of}
use Rattle.nearest.proofs.Rows.{four-at}
use Rattle.nearest.proofs.Laws.{counted-below}

pub summable : (k : Accord) (g h : Received) → Summable (nearest_of k g).counted (nearest_of k h).counted
summable k g h = record { first_below = counted-below k g; second_below = counted-below k h }

-- what the types of a subset count for, from the rows of two searches
abbrev found : Accord → Two Received → ℕ → ℕ → ℕ → ℕ → ℕ
found k y = sum_of (nearest_of k y.first).counted (nearest_of k y.second).counted

at_label : (k : Accord) (h : Received) (l : ℕ) → l < 4 → get_or (nearest_of k h).counted l 0 ≡ counted (gap_of k.u (line_distance k) h l)
unfolding nearest_of
at_label k h = four-at (λ l. counted (gap_of k.u (line_distance k) h l))

sum_is : (k : Accord) (y : Two Received) (y0 i1 i2 i3 : ℕ) → i2 < 2 → i3 < 2 → found k y y0 i1 i2 i3 ≡ type_sum k.u (line_distance k) counted y y0 i1 i2 i3
unfolding sum_of type_sum
sum_is k y y0 i1 i2 i3 a b =
    let q = turn_of i2 i3 in
    ap₂ (λ (m n : ℕ). m + n) (at_label k y.first q (omega arith)) (at_label k y.second (second_label q y0 i1) (second_below q y0 i1))

-- the choice looks at both types and at nothing else
both : (f g : ℕ → ℕ) → f 0 ≡ g 0 → f 1 ≡ g 1 → nearer_of f ≡ nearer_of g
unfolding nearer_of least
both f g p q = rw (p, q) (go (ltb (g 1) (g 0)))
  where
    go : (b : Bool) → ◌≡◌ {A = Nearer} (record { cost = f (keep_n b 0 1); i3 = keep_n b 0 1 }) (record { cost = g (keep_n b 0 1); i3 = keep_n b 0 1 })
    go true = ap (λ (n : ℕ). record { cost = n; i3 = 1 }) q
    go false = ap (λ (n : ℕ). record { cost = n; i3 = 0 }) p

chosen : (k : Accord) (y : Two Received) (y0 i1 i2 : ℕ) → i2 < 2 → nearer_of (found k y y0 i1 i2) ≡ record { cost = cost_of k y y0 i1 i2; i3 = best_i3 k.u (line_distance k) counted y y0 i1 i2 }
unfolding cost_of best_i3 nearer_of
chosen k y y0 i1 i2 h =
    both (found k y y0 i1 i2) (type_sum k.u (line_distance k) counted y y0 i1 i2) (sum_is k y y0 i1 i2 0 h (omega arith)) (sum_is k y y0 i1 i2 1 h (omega arith))

numbers : (k : Accord) (h : Received) → (nearest_of k h).w ≡ four (near k.u (line_distance k) h)
unfolding nearest_of
numbers k h = refl

-- what `weigh` puts together
pub weighed : (k : Accord) (g h : Received) (a b : Nearest) (c : Choices) → a ≡ nearest_of k g → b ≡ nearest_of k h →
    c ≡ choices_of (λ y0 i1 i2. nearer_of (sum_of a.counted b.counted y0 i1 i2)) → record { costs = c.costs; i3 = c.i3; w1 = a.w; w2 = b.w } ≡ weighed_of k (heard_as g h)
unfolding weighed_of
weighed k g h a b c p q r =
    let y = heard_as g h in
    let z : 0 < 2 = omega arith in
    let o : 1 < 2 = omega arith in
    rw (
      r,
      p,
      q,
      numbers k g,
      numbers k h,
      chosen k y 0 0 0 z,
      chosen k y 0 0 1 o,
      chosen k y 0 1 0 z,
      chosen k y 0 1 1 o,
      chosen k y 1 0 0 z,
      chosen k y 1 0 1 o,
      chosen k y 1 1 0 z,
      chosen k y 1 1 1 o,
    )
