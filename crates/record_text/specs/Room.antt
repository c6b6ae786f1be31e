-- The sizes of what is lent, so that no answer is ever cut short. Definitions only.
--   page_room        what any answer takes at most: three numbers with the spaces between them, a place, 4096 words, a newline
--   Ready asked ..  the sizes that a request names fit, the lists have their sizes (`Long`), and the page has that room
use Rattle.std.specs.Prelude.{ℕ, ◌+◌, ◌*◌, ◌≤◌, List, length}
use Rattle.requests.specs.declared.Request.{Request}
use Rattle.requests.specs.Named.{Named}
use Rattle.requests.specs.Verb.{Fit}
use Rattle.desk.specs.Room.{Long}

abbrev pub page_room : ℕ
page_room = 92 + 4096 * 21

pub record Ready (asked : Request) (l : Named) (page : List ℕ) : Type 0 where
  pub long : Long l
  pub page-long : page_room ≤ length page
  pub fit : Fit (length l.coordinates) asked
