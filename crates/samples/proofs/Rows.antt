-- The sample rows of 01, listed in specs/Rows.antt, hold. Both facts are computed from the definitions.
--   row-bits      the bits of each row are those of its float
--   sample-rows   what is heard of each row's float is what the row gives
use mathlib.Core.Path.{◌≡◌, refl}
use mathlib.Core.List.{map}
use lib.Ieee.{binary32, to_bits}
use Rattle.samples.specs.Heard.{heard_coordinate}
use Rattle.samples.specs.Rows.{SampleRow, sample_rows}

pub row-bits : map (λ (r : SampleRow). to_bits binary32 r.float) sample_rows ≡ map (λ (r : SampleRow). r.bits) sample_rows
unfolding to_bits
row-bits = refl

pub sample-rows : map (λ (r : SampleRow). heard_coordinate r.float) sample_rows ≡ map (λ (r : SampleRow). r.given) sample_rows
unfolding heard_coordinate to_bits
sample-rows = refl
