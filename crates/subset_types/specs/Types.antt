-- The two types of a subset, from the counted distances of the nearest points of each label, and rows by subset. That this is the theory's
-- choice is proved in nearest/proofs/Weighing.
--   eight f                    f at Y0, I1 and I2', in the order of the subset's number 4·Y0 + 2·I1 + I2'
--   Summable d1 d2             every distance is below 2^29, so that two of them add up to less than 2^30
--   sum_of d1 d2 y0 i1 i2 i3    what the best symbol of a type counts for
--   nearer_of f                 of f 0 and f 1 the smaller, f 0 of equals, and which it is
--   choices_of n                cost and I3' of each subset, as rows
use Rattle.std.specs.Prelude.{ℕ, ◌+◌, ◌^◌, ◌<◌, List, [], ◌∷◌, get_or}
use Rattle.wei.specs.Label.{turn_of, second_label}
use Rattle.trellis.specs.Pick.{least}
use Rattle.subset_types.specs.declared.Nearer.{Nearer}
use Rattle.subset_types.specs.declared.Choices.{Choices}

abbrev pub eight : (ℕ → ℕ → ℕ → ℕ) → List ℕ
eight f = f 0 0 0 ∷ f 0 0 1 ∷ f 0 1 0 ∷ f 0 1 1 ∷ f 1 0 0 ∷ f 1 0 1 ∷ f 1 1 0 ∷ f 1 1 1 ∷ []

pub record Summable (d1 d2 : List ℕ) : Type 0 where
  pub first_below : (l : ℕ) → get_or d1 l 0 < 2 ^ 29
  pub second_below : (l : ℕ) → get_or d2 l 0 < 2 ^ 29

unfoldable pub sum_of : List ℕ → List ℕ → ℕ → ℕ → ℕ → ℕ → ℕ
sum_of d1 d2 y0 i1 i2 i3 = get_or d1 (turn_of i2 i3) 0 + get_or d2 (second_label (turn_of i2 i3) y0 i1) 0

unfoldable pub nearer_of : (ℕ → ℕ) → Nearer
nearer_of f = record { cost = f (least f 1); i3 = least f 1 }

abbrev pub choices_of : (ℕ → ℕ → ℕ → Nearer) → Choices
choices_of n = record { costs = eight (λ y0 i1 i2. (n y0 i1 i2).cost); i3 = eight (λ y0 i1 i2. (n y0 i1 i2).i3) }
