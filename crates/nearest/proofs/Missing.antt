-- A missing point is at distance 0 from every point: of each label the nearest number is 0, and a symbol that misses both points counts
-- for nothing, whatever its subset. 02, Wish 4: "A missing point adds 0 to every distance, so ties decide, w going to 0".
--   none_found           what a search finds for a missing point
--   far-missing          a symbol that misses both points is as far from every symbol, by 0
--   cost-missing         so every subset costs 0
--   choice-missing       and the symbol of each subset has I3', w1 and w2 0
use mathlib.Core.Path.{◌≡◌, refl, ap, ap₂, ◌∙◌}
use mathlib.Core.Bool.{Bool}
use mathlib.Core.List.{[], ◌∷◌}
use Prim.Native.Nat.{ℕ, zero, suc, ◌+◌, ◌-◌, ◌^◌}
use native.Mathlib.Omega.{arith}
use borrow.Author.Tests.{le-ltb}
use Rattle.points.specs.declared.Accord.{Accord}
use Rattle.wei.specs.Label.{turn_of, second_label}
use Rattle.wei.specs.Symbol.{Symbol}
use Rattle.trellis.specs.Measure.{counted, first_far, second_far, far_of}
use Rattle.trellis.specs.Pick.{keep_n, least, near, gap_of, type_sum, best_i3, best_of}
use Rattle.nearest.specs.declared.Received.TheVariants.{Missing}
use Rattle.nearest.specs.Line.{line_distance, line_measure, line_choice}
use Rattle.nearest.specs.Found.{heard_as, nearest_of, cost_of}

-- where nothing is less than what is looked at first, that is found
least-flat : (f : ℕ → ℕ) → ((w : ℕ) → f w ≡ 0) → (n : ℕ) → least f n ≡ 0
unfolding least
least-flat f z zero = refl
least-flat f z (suc n) =
    ap (λ (b : Bool). keep_n b (least f n) (suc n)) (le-ltb (f (suc n)) (f (least f n)) (omega (arith, z (least f n)))) ∙ least-flat f z n

module _ (k : Accord) (l : ℕ) where
  near-missing : near k.u (line_distance k) Missing l ≡ 0
  unfolding near line_distance
  near-missing = least-flat (λ w. 0) (λ _. refl) (2 ^ k.u - 1)

  gap-missing : gap_of k.u (line_distance k) Missing l ≡ 0
  unfolding gap_of line_distance
  gap-missing = refl

  counted-missing : counted (gap_of k.u (line_distance k) Missing l) ≡ 0
  unfolding counted
  counted-missing = rw gap-missing

pub none_found : (k : Accord) → record { w = 0 ∷ 0 ∷ 0 ∷ 0 ∷ []; d = 0 ∷ 0 ∷ 0 ∷ 0 ∷ []; counted = 0 ∷ 0 ∷ 0 ∷ 0 ∷ [] } ≡ nearest_of k Missing
unfolding nearest_of gap_of line_distance counted
none_found k = cc (near-missing k 0, near-missing k 1, near-missing k 2, near-missing k 3)

module _ (k : Accord) where
  pub far-missing : (c : Symbol) → (line_measure k).far (heard_as Missing Missing) c ≡ 0
  unfolding far_of first_far second_far line_distance counted
  far-missing c = refl

  module _ (y0 i1 i2 : ℕ) where
    sum-missing : (i3 : ℕ) → type_sum k.u (line_distance k) counted (heard_as Missing Missing) y0 i1 i2 i3 ≡ 0
    unfolding type_sum
    sum-missing i3 = ap₂ (λ (m n : ℕ). m + n) (counted-missing k _) (counted-missing k _)

    i3-missing : best_i3 k.u (line_distance k) counted (heard_as Missing Missing) y0 i1 i2 ≡ 0
    unfolding best_i3
    i3-missing = least-flat (type_sum k.u (line_distance k) counted (heard_as Missing Missing) y0 i1 i2) sum-missing 1

    pub cost-missing : cost_of k (heard_as Missing Missing) y0 i1 i2 ≡ 0
    unfolding cost_of
    cost-missing = sum-missing _

    pub choice-missing : line_choice k (heard_as Missing Missing) y0 i1 i2 ≡ record { y0 = y0; i1 = i1; i2 = i2; i3 = 0; w1 = 0; w2 = 0 }
    unfolding best_of
    choice-missing = rw (i3-missing) (cc (near-missing k (turn_of i2 0), near-missing k (second_label (turn_of i2 0) y0 i1)))
