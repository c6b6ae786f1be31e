-- Registers that hold, for each state, the subsets of the pending symbols on the best way into it. A state has 192 bits in three words, and
-- bits 3q, 3q + 1 and 3q + 2 are the subset of the symbol q before the newest. Word b of the state s stands at 16·b + s.
--   bit_at r q                  bit q of a word
--   bit_in registers s i           bit i of the state s
--   subset_in registers s q        the subset that the state s has at the age q
--   came_from step              the state before, of a step
--   words_before registers steps b   word b of the states that the steps name
--   longer r d                 the word r with the three bits d below it; the three highest are forgotten
--   moved_words n               how many words hold the newest n symbols
--   moved_of n registers steps     the registers after a symbol, where n are pending then: each state's from the state its step names, one
--                              symbol longer. Words that hold none of the n stay as they were: nobody reads them
--   same_from, same_at           whether the states that the steps name have one subset at the age q
--   clear_at d q                bit q of d is not set
--   oldest p n                 how many of the ages n - 1, n - 2 .. obey p before the first that does not
--   apart_of ways               the bits in which the words differ
--   parted_of ways n            how many of the lowest n bits reach up to the highest that differs
--   reach_of registers steps n     the same of the 192 bits of the states that the steps name
use Rattle.std.specs.Prelude.{ℕ, zero, suc, ◌+◌, ◌-◌, ◌*◌, ◌/◌, ◌%◌, ◌^◌, Bool, true, cond, ◌&&◌, List, [], ◌∷◌, eqb, leb, ltb, get_or}
use Rattle.std.specs.Int.Count.{count_leading_zeros}
use Rattle.std.specs.Int.Bits.{bit_or, bit_xor}
use Rattle.lists.specs.Tabled.{tabled}

abbrev pub bit_at : ℕ → ℕ → ℕ
bit_at r q = r / 2 ^ q % 2

abbrev pub bit_in : List ℕ → ℕ → ℕ → ℕ
bit_in registers s i = bit_at (get_or registers (16 * (i / 64) + s) 0) (i % 64)

abbrev pub subset_in : List ℕ → ℕ → ℕ → ℕ
subset_in registers s q = 4 * bit_in registers s (3 * q + 2) + 2 * bit_in registers s (3 * q + 1) + bit_in registers s (3 * q)

abbrev pub came_from : ℕ → ℕ
came_from step = step / 8 % 16

-- ---- a symbol more

abbrev pub longer : ℕ → ℕ → ℕ
longer r d = r % 2 ^ 61 * 8 + d

abbrev pub word_before : List ℕ → List ℕ → ℕ → ℕ → ℕ
word_before registers steps b s = get_or registers (16 * b + came_from (get_or steps s 0)) 0

unfoldable pub words_before : List ℕ → List ℕ → ℕ → List ℕ
words_before registers steps b = tabled (word_before registers steps b) 16

-- what comes up into word b: the subset, or the three highest bits of the word below
unfoldable pub carried : List ℕ → List ℕ → ℕ → ℕ → ℕ
carried registers steps zero s = get_or steps s 0 % 8
carried registers steps (suc b) s = word_before registers steps b s / 2 ^ 61 % 8

abbrev pub moved_at : List ℕ → List ℕ → ℕ → ℕ → ℕ
moved_at registers steps b s = longer (word_before registers steps b s) (carried registers steps b s)

-- 21 symbols have 63 bits, 42 have 126
unfoldable pub moved_words : ℕ → ℕ
moved_words n = cond (leb n 21) 1 (cond (leb n 42) 2 3)

abbrev pub place_moved : ℕ → List ℕ → List ℕ → ℕ → ℕ
place_moved n registers steps i = cond (ltb (i / 16) (moved_words n)) (moved_at registers steps (i / 16) (i % 16)) (get_or registers i 0)

unfoldable pub moved_of : ℕ → List ℕ → List ℕ → List ℕ
moved_of n registers steps = tabled (place_moved n registers steps) 48

-- ---- what all agree on

unfoldable pub same_from : List ℕ → ℕ → ℕ → List ℕ → Bool
same_from registers s q [] = true
same_from registers s q (step ∷ l) = eqb (subset_in registers (came_from step) q) (subset_in registers s q) && same_from registers s q l

abbrev pub same_at : List ℕ → List ℕ → ℕ → Bool
same_at registers steps q = same_from registers (came_from (get_or steps 0 0)) q steps

unfoldable pub oldest : (ℕ → Bool) → ℕ → ℕ
oldest p zero = zero
oldest p (suc q) = cond (p q) (suc (oldest p q)) zero

abbrev pub clear_at : ℕ → ℕ → Bool
clear_at d q = eqb (bit_at d q) 0

-- beside the bits d
unfoldable pub apart_from : ℕ → ℕ → List ℕ → ℕ
apart_from f d [] = d
apart_from f d (w ∷ l) = apart_from f (bit_or d (bit_xor w f)) l

abbrev pub apart_of : List ℕ → ℕ
apart_of ways = apart_from (get_or ways 0 0) 0 ways

-- the lowest n bits of a word of 64
abbrev pub lowest : ℕ → ℕ → ℕ
lowest d n = d % 2 ^ cond (leb 64 n) 64 n

unfoldable pub parted_of : List ℕ → ℕ → ℕ
parted_of ways n = 64 - count_leading_zeros 64 (lowest (apart_of ways) n)

-- a word above others: where nothing differs in it, theirs
abbrev pub above_of : ℕ → ℕ → ℕ → ℕ
above_of high base low = cond (eqb high 0) low (base + high)

unfoldable pub reach_of : List ℕ → List ℕ → ℕ → ℕ
reach_of registers steps n =
    let words = words_before registers steps in
    cond (leb n 64) (parted_of (words 0) n)
    (cond (leb n 128) (above_of (parted_of (words 1) (n - 64)) 64 (parted_of (words 0) 64))
    (above_of (parted_of (words 2) (n - 128)) 128 (above_of (parted_of (words 1) 64) 64 (parted_of (words 0) 64))))
