-- The words of symbols, from 01: "Words follow from the symbols, q taken from differences (IV-5)", and from 02, Wish 5: "With a free
-- start the first word now has bits 1 and 2 zero, and I1, w1 and w2 as before; a named start keeps the old reading". Words are made by
-- `packed` of `wei`, and by nothing else. All lists here stand in the order of time. That this undoes the sender's way from words to
-- symbols (wei/specs/Symbol, `symbols_from`) is proved in proofs/Words.
--   word_parts q c            the parts of the word of c, where q is the turn before
--   word u q c               that word
--   turn_after q c            the turn after c, whatever q was
--   words_from u q cs         the words of cs, where q is the turn before
--   first_turn b              the turn against which the first symbol is measured, where the start is b
--   words u b cs             the words of cs from the first symbol on
--   cleared n                the word n with bits 1 and 2 zero
--   as_heard b ws             the words ws as a receiver with the start b gives them back from a clean line
use Rattle.std.specs.Prelude.{ℕ, ◌-◌, ◌*◌, ◌/◌, ◌%◌, List, [], ◌∷◌}
use Rattle.trellis.specs.Speak.{speak}
use Rattle.trellis.specs.Measure.{Start, free, named}
use Rattle.wei.specs.declared.word.Parts.{Parts}
use Rattle.wei.specs.Word.{packed}
use Rattle.wei.specs.Label.{unknown, turn_since}
use Rattle.wei.specs.Symbol.{Symbol, first_label}

-- 2·I3 + I2 is the difference of the turns; both are 0 where the turn before is not known
unfoldable pub word_parts : ℕ → Symbol → Parts
word_parts q c = record { i1 = c.i1; i2 = turn_since q (first_label c) % 2; i3 = turn_since q (first_label c) / 2; w1 = c.w1; w2 = c.w2 }

unfoldable pub word : ℕ → ℕ → Symbol → ℕ
word u q c = packed u (word_parts q c)

abbrev pub turn_after : ℕ → Symbol → ℕ
turn_after q c = first_label c

abbrev pub words_from : ℕ → ℕ → List Symbol → List ℕ
words_from u q cs = speak (word u) turn_after q cs

-- "A receiver that joins a live line can't know the turn before it"; with a named start, 01: "the first symbol's measured against 0"
abbrev pub first_turn : Start → ℕ
first_turn free = unknown
first_turn (named n) = 0

abbrev pub words : ℕ → Start → List Symbol → List ℕ
words u b cs = words_from u (first_turn b) cs

-- a word with bits 1 and 2 zero
abbrev pub cleared : ℕ → ℕ
cleared n = n - 2 * (n / 2 % 4)

-- "The clean round trip of demand 2 then excepts these two bits with a free start"
abbrev pub as_heard : Start → List ℕ → List ℕ
as_heard (named n) ws = ws
as_heard free [] = []
as_heard free (w ∷ ws) = cleared w ∷ ws
