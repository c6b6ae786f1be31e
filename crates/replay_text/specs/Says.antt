-- The line of a verdict: 02, Wish 2. "It prints `agree N` with the number of words, or one line for the first fault: `record N word G expected
-- H`, `record N missing word H`, `record N refused R`, or `offset P malformed`, words as eight hex digits .. a word too many shown with
-- `expected none`". Hexadecimal digits are lower case.
--   hex w      a word
--   line_of v   the line of a verdict
use Rattle.std.specs.Prelude.{ℕ, List, [], ◌++◌}
use Rattle.io.specs.Digits.{last_digits}
use Rattle.text.specs.Bytes.{bytes}
use Rattle.phrases.specs.Phrase.{decimal}
use Rattle.replay_judge.specs.declared.Verdict.{Verdict}
use Rattle.replay_judge.specs.declared.Verdict.TheVariants.{Agree, Differs, Extra, Missing, Refused, Malformed}

unfoldable pub hex : ℕ → List ℕ
hex w = last_digits 16 8 w

abbrev pub recorded : ℕ → ℕ → List ℕ
recorded n g = bytes "record " ++ decimal n ++ bytes " word " ++ hex g

unfoldable pub line_of : Verdict → List ℕ
line_of (Agree n) = bytes "agree " ++ decimal n ++ []
line_of (Differs n g h) = recorded n g ++ bytes " expected " ++ hex h
line_of (Extra n g) = recorded n g ++ bytes " expected none"
line_of (Missing n h) = bytes "record " ++ decimal n ++ bytes " missing word " ++ hex h
line_of (Refused n r) = bytes "record " ++ decimal n ++ bytes " refused " ++ decimal r
line_of (Malformed p) = bytes "offset " ++ decimal p ++ bytes " malformed"
