-- Which map the tokens at the end of an opening name. Definitions only.
--   map_named ts     "` square` at the end of `sender U` and of every `receiver ..`": nothing is the round map, and anything else is unread
--   numbered_of ts   a number, 0 to 4294967295, and the map after it
use Rattle.std.specs.Prelude.{ℕ, cond, Option, Some, None, List, [], ◌∷◌}
use Rattle.points.specs.declared.Map.{Map}
use Rattle.points.specs.declared.Map.TheVariants.{Round, Square}
use Rattle.text.specs.Bytes.{bytes}
use Rattle.text.specs.Token.{same_bytes}
use Rattle.text.specs.Number.{number_of}
use Rattle.line_fields.specs.declared.map_names.Numbered.{Numbered}

abbrev pub map_named : List (List ℕ) → Option Map
map_named [] = Some Round
map_named (t ∷ []) = cond (same_bytes t (bytes "square")) (Some Square) None
map_named (t ∷ t' ∷ ts) = None

abbrev pub with_map : ℕ → Option Map → Option Numbered
with_map n (Some m) = Some (record { map = m; number = n })
with_map n None = None

abbrev pub numbered_by : Option ℕ → Option Map → Option Numbered
numbered_by (Some n) w = with_map n w
numbered_by None w = None

abbrev pub numbered_of : List (List ℕ) → Option Numbered
numbered_of [] = None
numbered_of (t ∷ ts) = numbered_by (number_of 10 4294967295 t) (map_named ts)
