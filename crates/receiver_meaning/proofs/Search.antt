-- The code that a line of 01 speaks and the search that decodes it, with what the theory asks of them; and what the rows of a weighed
-- symbol say of the search's picks.
--   search_of ac b              the search of a line of the accord ac with the start b
--   pick_of ac y s t            the search's pick from s to t
--   laws, onward               the search obeys its laws, and every list has an allowed sequence
--   cost-at                    the cost of a step's subset is the distance of the pick between its two states
use mathlib.Core.Path.{◌≡◌, sym, ◌∙◌}
use Prim.Native.Nat.{ℕ}
use native.Mathlib.Omega.{arith}
use lib.ListN.{get_or}
use Rattle.wei.specs.State.{bit_w4, carry_i1, carry_i2, between}
use Rattle.wei.specs.Symbol.{Symbol}
use Rattle.wei.proofs.States.{carry_i1-below, carry_i2-below}
use Rattle.points.specs.declared.Accord.{Accord}
use Rattle.trellis.specs.Code.{Onward}
use Rattle.trellis.specs.Search.{Search, Laws}
use Rattle.trellis.specs.Measure.{Start, GoodStart, Two}
use Rattle.trellis.specs.Same.{same_symbol}
use Rattle.trellis.specs.Pick.{wei_search}
use Rattle.trellis.proofs.WeiLaws.{wei-laws, wei-onward}
use Rattle.nearest.specs.declared.Received.{Received}
use Rattle.nearest.specs.Line.{line_measure, line_choice}
use Rattle.nearest.specs.Found.{weighed_of}
use Rattle.nearest.proofs.Laws.{best-cost, costs-at, line-chooses}
use Rattle.receiver_meaning.specs.Told.{code_of}

abbrev pub search_of : (ac : Accord) (b : Start) → Search (code_of ac b)
search_of ac b = wei_search ac.u (line_measure ac) (line_choice ac) same_symbol b

pub laws : (ac : Accord) (b : Start) → Laws (search_of ac b)
laws ac b = wei-laws ac.u (line_measure ac) (line_choice ac) (line-chooses ac) same_symbol b

pub onward : (ac : Accord) (b : Start) → GoodStart b → Onward (code_of ac b)
onward ac b g = wei-onward ac.u (line_measure ac) b g

abbrev pub pick_of : Accord → Two Received → ℕ → ℕ → Symbol
pick_of ac y s t = line_choice ac y (bit_w4 s) (carry_i1 s t) (carry_i2 s t)

pub cost-at : (ac : Accord) (y : Two Received) (s t : ℕ) → (line_measure ac).far y (pick_of ac y s t) ≡ get_or (weighed_of ac y).costs (between s t) 0
unfolding between
cost-at ac y s t =
    best-cost ac y (bit_w4 s) (carry_i1 s t) (carry_i2 s t)
    ∙ sym (costs-at ac y (bit_w4 s) (carry_i1 s t) (carry_i2 s t) (omega arith) (carry_i1-below s t) (carry_i2-below s t))
