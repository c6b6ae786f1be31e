-- Two captures compared, in the words of 02, Wish 12: what a reader believes.
--   same r q             two records of one kind and one body
--   differences_from n rs qs   the lines about the records from number n on
--   comparison_of a b     THE COMPARISON of two readings: all lines, the last included
--   compared_of xs ys     the comparison of two captures
--   exchanged l          a line with `first` and `second` exchanged
--   capped_line l         a line whose number stays at the end of 64 bits
use Rattle.std.specs.Prelude.{ℕ, ◌+◌, Bool, false, cond, List, [], ◌∷◌, ◌++◌, eqb, length}
use Rattle.text.specs.Token.{same_bytes}
use Rattle.records.specs.Values.{Entry}
use Rattle.records.specs.Reading.{Ending, clean, malformed, Reading, reading_of}
use Rattle.records.specs.Frames.{capped}
use Rattle.compare_events.specs.declared.Line.{Line}
use Rattle.compare_events.specs.declared.Line.TheVariants.{Differs, OnlyFirst, OnlySecond, Differences, FirstMalformed, SecondMalformed}

-- "where kind or body differs"
abbrev pub same : Entry → Entry → Bool
same r q = cond (eqb r.kind q.kind) (same_bytes r.body q.body) false

-- "goes record by record. For each place where kind or body differs it prints `record N differs`. Records only one has are printed as
-- `record N only first` or `record N only second`"
unfoldable pub differences_from : ℕ → List Entry → List Entry → List Line
differences_from n [] [] = []
differences_from n (r ∷ rs) [] = OnlyFirst n ∷ differences_from (n + 1) rs []
differences_from n [] (q ∷ qs) = OnlySecond n ∷ differences_from (n + 1) [] qs
differences_from n (r ∷ rs) (q ∷ qs) = cond (same r q) (differences_from (n + 1) rs qs) (Differs n ∷ differences_from (n + 1) rs qs)

-- "The last line is `differences K`, K being the lines before it"
abbrev pub counted : List Line → List Line
counted ls = ls ++ Differences (length ls) ∷ []

-- "Malformed input gives one line only, `first malformed P` or `second malformed P`, the first checked first"
abbrev pub judged : Ending → Ending → List Line → List Line
judged (malformed p) e ls = FirstMalformed p ∷ []
judged clean (malformed p) ls = SecondMalformed p ∷ []
judged clean clean ls = counted ls

unfoldable pub comparison_of : Reading → Reading → List Line
comparison_of a b = judged a.ending b.ending (differences_from 0 a.records b.records)

abbrev pub compared_of : List ℕ → List ℕ → List Line
compared_of xs ys = comparison_of (reading_of xs) (reading_of ys)

abbrev pub exchanged : Line → Line
exchanged (Differs n) = Differs n
exchanged (OnlyFirst n) = OnlySecond n
exchanged (OnlySecond n) = OnlyFirst n
exchanged (Differences n) = Differences n
exchanged (FirstMalformed p) = SecondMalformed p
exchanged (SecondMalformed p) = FirstMalformed p

abbrev pub capped_line : Line → Line
capped_line (Differs n) = Differs (capped n)
capped_line (OnlyFirst n) = OnlyFirst (capped n)
capped_line (OnlySecond n) = OnlySecond (capped n)
capped_line (Differences n) = Differences (capped n)
capped_line (FirstMalformed p) = FirstMalformed (capped p)
capped_line (SecondMalformed p) = SecondMalformed (capped p)
