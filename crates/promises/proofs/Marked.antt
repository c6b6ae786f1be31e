-- The marked rows of 01 hold, all of them, by computing the definitions (the table is in specs/Marked).
--   marked-rows   what each row gives is what 01 prints
use mathlib.Core.Path.{◌≡◌, refl}
use mathlib.Core.List.{map}
use lib.Ieee.{to_bits}
use Rattle.points.specs.Points.{a_point, coordinates}
use Rattle.points.specs.Turn.{point_of}
use Rattle.maps.specs.PointMap.{first_at, second_at}
use Rattle.wei.specs.Word.{unpacked}
use Rattle.wei.specs.State.{next_state}
use Rattle.wei.specs.Label.{second_label}
use Rattle.wei.specs.Symbol.{last_label, symbol_of}
use Rattle.samples.specs.Heard.{heard_coordinate}
use Rattle.sender.specs.Send.{after, four, sending}
use Rattle.promises.specs.Marked.{MarkedRow, marked_rows}

pub marked-rows : map (λ (r : MarkedRow). r.gives) marked_rows ≡ map (λ (r : MarkedRow). r.printed) marked_rows
unfolding marked_rows sending symbol_of after four first_at second_at last_label point_of a_point coordinates unpacked next_state second_label heard_coordinate to_bits
marked-rows = refl
