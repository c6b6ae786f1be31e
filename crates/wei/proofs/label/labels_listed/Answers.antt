-- `label::labels_listed`: the constant table is the list of the specification, two numbers to a row.
use Rattle.std.proofs.Common.{◌≡◌, ℕ, ◌+◌, ◌*◌, List, [], ◌∷◌, get_or}
use Rattle.wei.specs.Label.{type_of, types, pair_of, type_row}
use Rattle.wei.proofs.Finite.{equal4}
use Rattle.wei.proofs.label.labels_listed.Goals as goal

pairs : List (ℕ × ℕ)
pairs =
    (0, 0) ∷ (2, 2) ∷ (1, 1) ∷ (3, 3) ∷ (0, 2) ∷ (2, 0) ∷ (1, 3) ∷ (3, 1) ∷ (0, 1) ∷ (2, 3) ∷ (1, 2) ∷ (3, 0) ∷ (0, 3) ∷ (2, 1) ∷ (1, 0) ∷ (3, 2) ∷ []

pub returns : goal.returns
unfolding type_of types pairs
returns c =
    let a = c.args in
    let first : (get_or pairs (type_row a.y0 a.i1 a.i2 a.i3) (0, 0)).0 ≡ get_or types (type_row a.y0 a.i1 a.i2 a.i3 * 2) 0 =
    equal4 2 2 2 2 (λ y0 i1 i2 i3. (get_or pairs (type_row y0 i1 i2 i3) (0, 0)).0) (λ y0 i1 i2 i3. get_or types (type_row y0 i1 i2 i3 * 2) 0)
    tt a.y0 a.i1 a.i2 a.i3 c.requires.0.0 c.requires.0.1 c.requires.1.0 c.requires.1.1 in
    let second : (get_or pairs (type_row a.y0 a.i1 a.i2 a.i3) (0, 0)).1 ≡ get_or types (type_row a.y0 a.i1 a.i2 a.i3 * 2 + 1) 0 =
    equal4 2 2 2 2 (λ y0 i1 i2 i3. (get_or pairs (type_row y0 i1 i2 i3) (0, 0)).1) (λ y0 i1 i2 i3. get_or types (type_row y0 i1 i2 i3 * 2 + 1) 0)
    tt a.y0 a.i1 a.i2 a.i3 c.requires.0.0 c.requires.0.1 c.requires.1.0 c.requires.1.1 in
    λ i. pair_of (first i) (second i)
