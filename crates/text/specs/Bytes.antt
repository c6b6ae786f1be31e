-- A text between quotes as its bytes: one byte for each character, which is right for the characters of ASCII. Definitions only.
--   bytes t   the codes of the characters of t
use Rattle.std.specs.Prelude.{ℕ, List}
use Prim.Native.Char.{code}
use Prim.Native.String.{String, [], ◌∷◌}
use mathlib.Core.List as list

abbrev pub bytes : String → List ℕ
bytes [] = list.[]
bytes (c ∷ t) = list.◌∷◌ (code c) (bytes t)
