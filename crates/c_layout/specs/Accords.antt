-- What both ends agree on, as numbers. That a word gives back what it was made of is proved in proofs/AccordsBack.
--   accord_by m u     the line of the map number m and the width u
--   number_of n     the number of the map n
--   accord_word k   map and width as one word
--   accord_in w     map and width of a word
use Rattle.std.specs.Prelude.{ℕ, zero, suc, ◌+◌, ◌*◌, ◌/◌, ◌%◌, ◌^◌}
use Rattle.points.specs.declared.Map.{Map}
use Rattle.points.specs.declared.Map.TheVariants.{Round, Square}
use Rattle.points.specs.declared.Accord.{Accord}

-- 02, Wish 11: "The opening names the map": 0 round, 1 square. Another number names no map: its line is one that no map has, of width 9
abbrev pub accord_by : ℕ → ℕ → Accord
accord_by zero u = record { map = Round; u = u }
accord_by (suc zero) u = record { map = Square; u = u }
accord_by (suc (suc m)) u = record { map = Round; u = 9 }

abbrev pub number_of : Map → ℕ
number_of Round = 0
number_of Square = 1

unfoldable pub accord_word : Accord → ℕ
accord_word k = number_of k.map * 2 ^ 32 + k.u

unfoldable pub accord_in : ℕ → Accord
accord_in w = accord_by (w / 2 ^ 32) (w % 2 ^ 32)
