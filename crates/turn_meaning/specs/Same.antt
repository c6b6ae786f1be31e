-- What stays of the words when everything that is heard is turned: on the round map all of them; on the square map, 02, Wish 11: "Wish 10
-- holds here for I1, I2 and I3 only, since w changes under a turn".
--   three_bits n       I1, I2 and I3 of the word n: its bits 0 to 2
--   SameWords m v w   the words v and w are the same, as far as the map m lets them
use Rattle.std.specs.Prelude.{ℕ, ◌%◌, ◌≡◌, List, map}
use Rattle.points.specs.declared.Map.{Map}
use Rattle.points.specs.declared.Map.TheVariants.{Round, Square}

abbrev pub three_bits : ℕ → ℕ
three_bits n = n % 8

abbrev pub SameWords : Map → List ℕ → List ℕ → Type 0
SameWords Round v w = v ≡ w
SameWords Square v w = map three_bits v ≡ map three_bits w
