-- Labels, the turn and the pair of labels, from 01, "Words, labels, points" and "Sender rules". Labels as numbers: A 0, C 1, B 2,
-- D 3. That the table of types is the rule modulo 4 is proved in proofs/Labels.
--   turn_of i2 i3            the turn q = 2·I3' + I2'
--   turn_on q i2 i3          the turn after q, with the word's I2 and I3 (IV-4)
--   turn_from old new        the 2·I3 + I2 between two turns (IV-5)
--   unknown                 a turn that is not known
--   turn_since old new       the same, and 0 where the old turn is not known
--   second_label q y0 i1     the second label; the first is q
--   types                   000's sixteen types in the order of Y0 I1 I2' I3', two labels each
--   type_of                  the pair of labels by that table
use Rattle.std.specs.Prelude.{ℕ, ◌+◌, ◌*◌, ◌-◌, ◌%◌, cond, List, [], ◌∷◌, eqb, get_or}
use Rattle.wei.specs.declared.label.LabelPair.{LabelPair}

-- "Turn q = 2·I3' + I2'"
abbrev pub turn_of : ℕ → ℕ → ℕ
turn_of i2 i3 = 2 * i3 + i2

-- "The new q is the old q plus 2·I3 + I2, modulo 4"
abbrev pub turn_on : ℕ → ℕ → ℕ → ℕ
turn_on q i2 i3 = (q + turn_of i2 i3) % 4

-- 000, IV-5: the difference modulo 4
abbrev pub turn_from : ℕ → ℕ → ℕ
turn_from old new = (new + 4 - old) % 4

-- turns are 0 to 3; this stands for the turn before a line that was joined later, which nobody there knows (02, Wish 5)
abbrev pub unknown : ℕ
unknown = 4

-- IV-5 where the turn before is known; where it is not nothing is claimed, and both bits are zero
abbrev pub turn_since : ℕ → ℕ → ℕ
turn_since old new = cond (eqb old unknown) 0 (turn_from old new)

-- "first q, second q + Y0 + 2·I1 modulo 4"
unfoldable pub second_label : ℕ → ℕ → ℕ → ℕ
second_label q y0 i1 = (q + y0 + 2 * i1) % 4

abbrev pub pair_of : ℕ → ℕ → LabelPair
pair_of a b = record { first = a; second = b }

-- 000, Table IV-2, column "4D TYPE": (A,A) (B,B) (C,C) (D,D) (A,B) (B,A) (C,D) (D,C) (A,C) (B,D) (C,B) (D,A) (A,D) (B,C) (C,A) (D,B)
unfoldable pub types : List ℕ
types =
    0 ∷ 0 ∷ 2 ∷ 2 ∷ 1 ∷ 1 ∷ 3 ∷ 3 ∷ 0 ∷ 2 ∷ 2 ∷ 0 ∷ 1 ∷ 3 ∷ 3 ∷ 1 ∷ 0 ∷ 1 ∷ 2 ∷ 3 ∷ 1 ∷ 2 ∷ 3 ∷ 0 ∷ 0 ∷ 3 ∷ 2 ∷ 1 ∷ 1 ∷ 0 ∷ 3 ∷ 2 ∷ []

-- the row of the four bits Y0 I1 I2' I3'
abbrev pub type_row : ℕ → ℕ → ℕ → ℕ → ℕ
type_row y0 i1 i2 i3 = 8 * y0 + 4 * i1 + 2 * i2 + i3

unfoldable pub type_of : ℕ → ℕ → ℕ → ℕ → LabelPair
unfolding types
type_of y0 i1 i2 i3 = pair_of (get_or types (type_row y0 i1 i2 i3 * 2) 0) (get_or types (type_row y0 i1 i2 i3 * 2 + 1) 0)
