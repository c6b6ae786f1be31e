-- The sizes of what is lent, so that no answer is ever cut short. Definitions only.
--   Long ..         the lists have their sizes: coordinates and words 4096 each, marks 1024
--   Ready ..        a request can be answered: its sizes fit, outputs and coordinates have their sizes, and the page has room for any
--                   answer
use Rattle.std.specs.Prelude.{ℕ, ◌+◌, ◌≤◌, ◌≡◌, List, length}
use Rattle.requests.specs.declared.Request.{Request}
use Rattle.requests.specs.Named.{Named}
use Rattle.requests.specs.Verb.{Fit}
use Rattle.answers.specs.Answer.{answer_room}

pub record Long (l : Named) : Type 0 where
  pub coordinates-long : length l.coordinates ≡ 4096
  pub words_long : length l.words ≡ 4096
  pub marks-long : length l.marks ≡ 1024

pub record Ready (asked : Request) (page : List ℕ) (at : ℕ) (l : Named) : Type 0 where
  pub fit : Fit (length l.coordinates) asked
  pub room : at + answer_room ≤ length page
  pub long : Long l
