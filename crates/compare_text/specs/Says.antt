-- The bytes of a comparison's line: 02, Wish 12. "`record N differs`", "`record N only first` or `record N only second`", "`differences K`",
-- "`first malformed P` or `second malformed P`". Numbers are decimal, and each line ends with a newline.
--   line_text l     one line
--   text_of ls      all of them
use Rattle.std.specs.Prelude.{List, [], ◌∷◌, ◌++◌, ℕ}
use Rattle.text.specs.Bytes.{bytes}
use Rattle.phrases.specs.Phrase.{decimal}
use Rattle.compare_events.specs.declared.Line.{Line}
use Rattle.compare_events.specs.declared.Line.TheVariants.{Differs, OnlyFirst, OnlySecond, Differences, FirstMalformed, SecondMalformed}

unfoldable pub line_text : Line → List ℕ
line_text (Differs n) = bytes "record " ++ decimal n ++ bytes " differs\n"
line_text (OnlyFirst n) = bytes "record " ++ decimal n ++ bytes " only first\n"
line_text (OnlySecond n) = bytes "record " ++ decimal n ++ bytes " only second\n"
line_text (Differences n) = bytes "differences " ++ decimal n ++ bytes "\n"
line_text (FirstMalformed p) = bytes "first malformed " ++ decimal p ++ bytes "\n"
line_text (SecondMalformed p) = bytes "second malformed " ++ decimal p ++ bytes "\n"

abbrev pub text_of : List Line → List ℕ
text_of [] = []
text_of (l ∷ ls) = line_text l ++ text_of ls
