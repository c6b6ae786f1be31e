-- 02's own case, computed: "The capture of Wish 2 against the same with its last byte 01 prints `record 3 differs`, then `differences 1`".
use mathlib.Core.Path.{◌≡◌, refl}
use mathlib.Core.List.{List, [], ◌∷◌}
use Prim.Native.Nat.{ℕ}
use Rattle.records.specs.Kinds.{kind_of}
use Rattle.records.specs.Values.{byte_fits, fits_from}
use Rattle.records.specs.Reading.{reading_from, reading_of}
use Rattle.compare_events.specs.declared.Line.TheVariants.{Differs, OnlySecond, Differences, SecondMalformed}
use Rattle.compare.specs.Differences.{differences_from, comparison_of, compared_of}

-- `01 00 40 10 02 80 00 80 00 80 00 80 00 04 03 00 00 00` and a last byte
abbrev ending-in : ℕ → List ℕ
ending-in b = 1 ∷ 0 ∷ 64 ∷ 16 ∷ 2 ∷ 128 ∷ 0 ∷ 128 ∷ 0 ∷ 128 ∷ 0 ∷ 128 ∷ 0 ∷ 4 ∷ 3 ∷ 0 ∷ 0 ∷ 0 ∷ b ∷ []

pub case : compared_of (ending-in 0) (ending-in 1) ≡ Differs 3 ∷ Differences 1 ∷ []
unfolding kind_of byte_fits fits_from reading_from reading_of differences_from comparison_of
case = refl

-- one has a record more, and one is malformed at its second record
pub longer : compared_of (1 ∷ 0 ∷ 64 ∷ 16 ∷ []) (1 ∷ 0 ∷ 64 ∷ 16 ∷ 4 ∷ []) ≡ OnlySecond 1 ∷ Differences 1 ∷ []
unfolding kind_of byte_fits fits_from reading_from reading_of differences_from comparison_of
longer = refl

pub broken : compared_of (1 ∷ 0 ∷ 64 ∷ 16 ∷ []) (1 ∷ 0 ∷ 64 ∷ 16 ∷ 3 ∷ []) ≡ SecondMalformed 4 ∷ []
unfolding kind_of byte_fits fits_from reading_from reading_of differences_from comparison_of
broken = refl

-- a symbol of kind 5 whose mark is none
pub unmarked : compared_of (1 ∷ 0 ∷ 64 ∷ 16 ∷ []) (1 ∷ 0 ∷ 64 ∷ 16 ∷ 5 ∷ 4 ∷ 0 ∷ 0 ∷ 0 ∷ 0 ∷ 0 ∷ 0 ∷ 0 ∷ 0 ∷ []) ≡ SecondMalformed 4 ∷ []
unfolding kind_of byte_fits fits_from reading_from reading_of differences_from comparison_of
unmarked = refl
