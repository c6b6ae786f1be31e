-- The sample rows of 01, "Rows to check", that are not marked, as one list; the marked ones stand in the one table (promises/specs/Marked).
-- proofs/Rows shows that each holds.
--   SampleRow    a float, by its 32 bits and by its value, and what is given for it
--   sample_rows   01's three rows
use Rattle.std.specs.Prelude.{ℕ, List, [], ◌∷◌, true, false, pos, negsuc, Float}
use Rattle.std.specs.Float.{fin}
use Rattle.samples.specs.Given.{GivenCoordinate, done, refused}

pub record SampleRow : Type 0 where
  pub bits : ℕ
  pub float : Float
  pub given : GivenCoordinate

-- `fin s m e` is m * 2 ^ e, negative where s is true, and `negsuc n` is -(n + 1).
-- So these are -3/256, 64.00390625, which is 16385/256, and 64.0625, which is 1025/16.
abbrev pub sample_rows : List SampleRow
sample_rows =
    record { bits = 0xbc40_0000; float = fin true 3 (negsuc 7); given = done (negsuc 1) }
    ∷ record { bits = 0x4280_0200; float = fin false 16385 (negsuc 7); given = done (pos 8192) }
    ∷ record { bits = 0x4280_2000; float = fin false 1025 (negsuc 3); given = refused }
    ∷ []
