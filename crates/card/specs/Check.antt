-- The check as the code makes it, one symbol after another. That it accepts what 02 asks for, and nothing else, is proved in
-- proofs/Theorems; nobody need believe this.
--   lengths_fit n ..     these are the lengths of the lists of n symbols, and n is 1 to 64; fits c, of a card's lists
--   Has c i             the lists reach as far as the i-th symbol needs
--   pair_at xs at        the two points whose four coordinates stand from the place `at` on
--   in_range h           all four are in range
--   step_holds k c i     the i-th symbol was heard in range, the card's symbol carries its state to the next, and the numbers rise by no
--                       more than each step costs
--   far_at k c i         what the i-th symbol counts for
--   step_of k c i        that, or that the step does not hold
--   sum_to k c i         the sum of the card's sequence up to the i-th symbol
--   accepts k c         all of it: each step holds, the numbers start at 0, and none of the last row is below the sum
use Rattle.std.specs.Prelude.{Bool, cond, Option, Some, None, ◌&&◌, List, ℕ, zero, suc, ◌+◌, ◌*◌, ◌≤◌, eqb, leb, ℤ, pos, length, get_or}
use Rattle.points.specs.declared.Accord.{Accord}
use Rattle.points.specs.Agreed.{is_accord}
use Rattle.nearest.specs.Line.{is_coordinate, line_measure}
use Rattle.nearest.specs.Found.{weighed_of}
use Rattle.card_sums.specs.Every.{every_below}
use Rattle.card_sums.specs.Rows.{holds, starts_at_zero, none_below}
use Rattle.card_symbol.specs.Chosen.{carries}
use Rattle.card.specs.declared.Pair.{Pair}
use Rattle.card.specs.Card.{Card, count_of, heard_at, state_at, symbol_at}

unfoldable pub lengths_fit : ℕ → ℕ → ℕ → ℕ → ℕ → Bool
lengths_fit n xs ss cs ns = leb 1 n && (leb n 64 && (((eqb xs (4 * n) && eqb ss (n + 1)) && eqb cs (6 * n)) && eqb ns (16 * (n + 1))))

abbrev pub fits : Card → Bool
fits c = lengths_fit (count_of c) (length c.coordinates) (length c.states) (length c.symbols) (length c.numbers)

pub record Has (c : Card) (i : ℕ) : Type 0 where
  pub coordinates-has : 4 * i + 4 ≤ length c.coordinates
  pub states-has : i + 2 ≤ length c.states
  pub symbols-has : 6 * i + 6 ≤ length c.symbols
  pub numbers-has : 16 * i + 32 ≤ length c.numbers

abbrev pub pair_at : List ℤ → ℕ → Pair
pair_at xs at =
    record {
      first = record { x = get_or xs at (pos 0); y = get_or xs (at + 1) (pos 0) };
      second = record { x = get_or xs (at + 2) (pos 0); y = get_or xs (at + 3) (pos 0) };
    }

unfoldable pub in_range : Pair → Bool
in_range h = ((is_coordinate h.first.x && is_coordinate h.first.y) && is_coordinate h.second.x) && is_coordinate h.second.y

unfoldable pub step_holds : Accord → Card → ℕ → Bool
step_holds k c i =
    in_range (pair_at c.coordinates (4 * i))
    && (carries k.u (state_at c i) (state_at c (i + 1)) (symbol_at c i) && holds c.numbers (16 * i) (weighed_of k (heard_at c i)).costs)

abbrev pub far_at : Accord → Card → ℕ → ℕ
far_at k c i = (line_measure k).far (heard_at c i) (symbol_at c i)

unfoldable pub step_of : Accord → Card → ℕ → Option ℕ
step_of k c i = cond (step_holds k c i) (Some (far_at k c i)) None

unfoldable pub sum_to : Accord → Card → ℕ → ℕ
sum_to k c zero = 0
sum_to k c (suc i) = sum_to k c i + far_at k c i

-- the steps of a card whose lists fit
unfoldable pub follows : Accord → Card → ℕ → Bool
follows k c n = every_below (step_holds k c) n && none_below c.numbers (16 * n) (sum_to k c n)

unfoldable pub accepts : Accord → Card → Bool
accepts k c = fits c && (is_accord k && (starts_at_zero c.numbers && follows k c (count_of c)))
