-- The line so far, gathered from chunks of the input. Definitions only.
--   Gathered line part s   the buffer `line` and the record `part` stand for the bytes s since the last newline: all of them at the
--                          start of the buffer, or only that they are too many
--   no_part                 no bytes so far
use Rattle.std.specs.Prelude.{ℕ, ◌<◌, ◌≡◌, true, false, List, length, take}
use Rattle.line_buffer.specs.declared.Part.{Part}

pub record Gathered (line : List ℕ) (part : Part) (s : List ℕ) : Type 0 where
  pub too_long : part.long ≡ true → length line < length s
  pub kept : part.long ≡ false → take part.held line ≡ s

abbrev pub no_part : Part
no_part = record { held = 0; long = false }
