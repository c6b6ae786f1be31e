-- The rows that 01 marks, as the single table that it asks for: labels, states, the sender, samples. Beside each row stands what 01
-- prints; proofs/Marked says that each holds.
--   MarkedRow     what the definitions give, and what is printed, as whole numbers in a list
--   labels        the labels of Y0 I1 I2' I3', as numbers: A 0, C 1, B 2, D 3
--   sent s ns     the words ns sent one after the other: of the last, the number, the four places and the state
--   heard x       of a float, the number and the coordinate
--   marked_rows    the table
use Rattle.std.specs.Prelude.{ℕ, false, List, [], ◌∷◌, ◌++◌, ℤ, pos, neg_ℤ, negsuc, Float}
use Rattle.std.specs.Float.{fin}
use Rattle.wei.specs.Label.{turn_of, second_label}
use Rattle.wei.specs.State.{next_state}
use Rattle.samples.specs.Heard.{heard_coordinate}
use Rattle.points.specs.Agreed.{of_width}
use Rattle.sender.specs.declared.Sender.{Sender}
use Rattle.sender.specs.Send.{fresh, sending}

pub record MarkedRow : Type 0 where
  pub gives : List ℤ
  pub printed : List ℤ

abbrev pub labels : ℕ → ℕ → ℕ → ℕ → List ℤ
labels y0 i1 i2 i3 = pos (turn_of i2 i3) ∷ pos (second_label (turn_of i2 i3) y0 i1) ∷ []

abbrev pub sent : Sender → List ℕ → List ℤ
sent s [] = []
sent s (n ∷ []) = let g = sending s n (pos 0 ∷ pos 0 ∷ pos 0 ∷ pos 0 ∷ []) in pos g.number ∷ g.output ++ (pos g.sender.state ∷ [])
sent s (n ∷ m ∷ ns) = sent (sending s n (pos 0 ∷ pos 0 ∷ pos 0 ∷ pos 0 ∷ [])).sender (m ∷ ns)

abbrev pub heard : Float → List ℤ
heard x = pos (heard_coordinate x).number ∷ (heard_coordinate x).value ∷ []

abbrev row : List ℤ → List ℤ → MarkedRow
row is says = record { gives = is; printed = says }

abbrev places : ℕ → ℤ → ℤ → ℤ → ℤ → ℕ → List ℤ
places n a b c d s = pos n ∷ a ∷ b ∷ c ∷ d ∷ pos s ∷ []

abbrev m : ℕ → ℤ
m n = neg_ℤ (pos n)

unfoldable pub marked_rows : List MarkedRow
marked_rows =
    -- "Y0 I1 I2' I3' = 1 1 1 0: labels C, A. 1 0 1 1: D, A. 0 1 1 0: C, D"
    row (labels 1 1 1 0) (pos 1 ∷ pos 0 ∷ [])
    ∷ row (labels 1 0 1 1) (pos 3 ∷ pos 0 ∷ [])
    ∷ row (labels 0 1 1 0) (pos 1 ∷ pos 3 ∷ [])
    -- "State 0 with (I1, I2') = 00 stays 0. State 1011 with 01 goes to 1110. State 1110 with 10 goes to 1011"
    ∷ row (pos (next_state 0 0 0) ∷ []) (pos 0 ∷ [])
    ∷ row (pos (next_state 0b1011 0 1) ∷ []) (pos 0b1110 ∷ [])
    ∷ row (pos (next_state 0b1110 1 0) ∷ []) (pos 0b1011 ∷ [])
    -- "u 0, word 1 from fresh: (1,1)(-1,-1), state 0001; then word 0: (1,1)(1,-1), state 0100"
    ∷ row (sent (fresh (of_width 0)) (1 ∷ [])) (places 0 (pos 1) (pos 1) (m 1) (m 1) 0b0001)
    ∷ row (sent (fresh (of_width 0)) (1 ∷ 0 ∷ [])) (places 0 (pos 1) (pos 1) (pos 1) (m 1) 0b0100)
    -- "u 0, word 2 from fresh: (1,-1)(1,-1), state 0010"
    ∷ row (sent (fresh (of_width 0)) (2 ∷ [])) (places 0 (pos 1) (m 1) (pos 1) (m 1) 0b0010)
    -- "u 0, word 4: (-1,-1) twice. u 0, word 8: refused 4. u 1, word 8: (-3,1)(1,1)"
    ∷ row (sent (fresh (of_width 0)) (4 ∷ [])) (places 0 (m 1) (m 1) (m 1) (m 1) 0)
    ∷ row (sent (fresh (of_width 0)) (8 ∷ [])) (places 4 (pos 0) (pos 0) (pos 0) (pos 0) 0)
    ∷ row (sent (fresh (of_width 1)) (8 ∷ [])) (places 0 (m 3) (pos 1) (pos 1) (pos 1) 0)
    -- "Samples: 1/256 gives 0; 3/256 gives 2"
    ∷ row (heard (fin false 1 (negsuc 7))) (pos 0 ∷ pos 0 ∷ [])
    ∷ row (heard (fin false 3 (negsuc 7))) (pos 0 ∷ pos 2 ∷ [])
    ∷ []
