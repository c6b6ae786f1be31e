-- The lists that are lent to a line. Definitions only.
--   Named                 what they hold: coordinates, words and marks, those that the line names at the start of each
--   none_named             nothing
use Rattle.std.specs.Prelude.{ℕ, List, [], ℤ}

pub record Named : Type 0 where
  pub coordinates : List ℤ
  pub words : List ℕ
  pub marks : List ℕ

abbrev pub named : List ℤ → List ℕ → List ℕ → Named
named cs ws ms = record { coordinates = cs; words = ws; marks = ms }

abbrev pub none_named : Named
none_named = named [] [] []
