-- The words of a receiver's front: the tag, five numbers, sixteen sums, two to a word, and 48 registers.
--   core_in, copied_in      the five numbers, and all of the front, that some words hold
--   words_of_core           the tag and the five numbers as words
--   FrontStored           a front was put into words
--   CoreStored            inside: its first six words
use Rattle.std.specs.Prelude.{ℕ, ◌^◌, ◌<◌, ◌≡◌, Bool, List, [], ◌∷◌, ◌++◌, get_or, length, take, drop}
use Rattle.c_layout.specs.Accords.{accord_in, accord_word}
use Rattle.machine.specs.declared.Core.{Core}
use Rattle.c_layout.specs.Layout.{receiver_tag, sums_at, registers_at, picks_at}
use Rattle.c_layout.specs.Tagged.{tag_of}
use Rattle.c_layout.specs.Halves.{unpacked, packed, AllHalves}
use Rattle.c_states.specs.declared.Copied.{Copied}

abbrev pub core_in : List ℕ → Core
core_in ws =
    record { accord = accord_in (get_or ws 1 0); turn = get_or ws 2 0; window = get_or ws 3 0; slot = get_or ws 4 0; pending = get_or ws 5 0 }

abbrev pub copied_in : List ℕ → Copied
copied_in ws = record { core = core_in ws; sums = unpacked (take 8 (drop sums_at ws)); registers = take 48 (drop registers_at ws) }

abbrev pub words_of_core : Bool → Core → List ℕ
words_of_core live c = tag_of live receiver_tag ∷ accord_word c.accord ∷ c.turn ∷ c.window ∷ c.slot ∷ c.pending ∷ []

-- the words l with all of a receiver but its picks in front; the numbers fit their fields, and the lists their places
pub record FrontStored (live : Bool) (c : Core) (sums registers l o : List ℕ) : Type 0 where
  pub words : o ≡ (words_of_core live c ++ (packed sums ++ registers)) ++ drop picks_at l
  pub u-fits : c.accord.u < 2 ^ 32
  pub turn-fits : c.turn < 2 ^ 32
  pub sums-fit : length sums ≡ 16
  pub sums-small : AllHalves sums
  pub registers-fit : length registers ≡ 48

-- inside: the first six words
pub record CoreStored (live : Bool) (c : Core) (l o : List ℕ) : Type 0 where
  pub words : o ≡ words_of_core live c ++ drop 6 l
  pub u-fits : c.accord.u < 2 ^ 32
  pub turn-fits : c.turn < 2 ^ 32
