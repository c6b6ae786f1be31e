-- What both ends of a line must agree on. Whatever depends on it, the search, the words, an opening, the promises, has it as its index.
--   has_width n u   the map n has the width u
--   is_accord a     there is such a line
--   of_width u      the line of the width u on the round map
use Rattle.std.specs.Prelude.{ℕ, ◌%◌, Bool, ◌&&◌, leb, eqb}
use Rattle.points.specs.declared.Map.{Map}
use Rattle.points.specs.declared.Map.TheVariants.{Round, Square}
use Rattle.points.specs.declared.Accord.{Accord}

-- "Width u is 0 to 8"; 02, Wish 11: "b even from 2 to 10", "u is b - 2"
abbrev pub has_width : Map → ℕ → Bool
has_width Round u = leb u 8
has_width Square u = leb u 8 && eqb (u % 2) 0

-- "1: u above 8 at an opening"; 02, Wish 11: "an odd u with this map is refused with 1"
abbrev pub is_accord : Accord → Bool
is_accord a = has_width a.map a.u

-- the openings that name no map
abbrev pub of_width : ℕ → Accord
of_width u = record { map = Round; u = u }
