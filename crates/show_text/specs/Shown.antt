-- The text of a record, as `capture show` prints it: "one readable line for each record (number, offset, kind in words, its values)".
-- Definitions only.
--   start_text s       of an open: "start (0 to 15, 16 for free)"
--   open_text, symbol_text, word_text   the kind in words, and what a body says: the numbers of an open, on the square map behind its name, the
--                     coordinates of a symbol, behind its mark where points of it are missing, a word as eight hexadecimal digits
--   values_text r k b  of the kind k and its role r
--   record_line n f    the line of record n, which the frame f holds
--   line_room          what a line takes at most
--   is_whole s         a record has just become whole
use Rattle.std.specs.Prelude.{ℕ, Bool, true, false, cond, List, ◌++◌, map, eqb}
use Rattle.text.specs.Bytes.{bytes}
use Rattle.phrases.specs.Phrase.{decimal, whole, after_spaces}
use Rattle.replay_text.specs.Says.{hex}
use Rattle.records.specs.declared.Role.{Role}
use Rattle.records.specs.declared.Role.TheVariants.{Open, Symbol, Word, Finish, Unknown}
use Rattle.records.specs.declared.Stage.{Stage}
use Rattle.records.specs.declared.Stage.TheVariants.{Fresh, Part, Whole, Bad}
use Rattle.records.specs.declared.Frame.{Frame}
use Rattle.records.specs.Kinds.{kind_of}
use Rattle.records.specs.Values.{width_of, window_of, start_of, mark_in, coordinates_of, word_of}

abbrev pub is_whole : Stage → Bool
is_whole Whole = true
is_whole Fresh = false
is_whole Part = false
is_whole Bad = false

unfoldable pub start_text : ℕ → List ℕ
start_text s = cond (eqb s 16) (bytes " start free") (bytes " start " ++ decimal s)

unfoldable pub open_head : ℕ → List ℕ → List ℕ
open_head k b = cond (eqb k 6) (bytes " open square u " ++ decimal (width_of b)) (bytes " open u " ++ decimal (width_of b))

unfoldable pub open_text : ℕ → List ℕ → List ℕ
open_text k b = open_head k b ++ (bytes " window " ++ decimal (window_of b)) ++ start_text (start_of b)

unfoldable pub symbol_head : ℕ → List ℕ → List ℕ
symbol_head k b = cond (eqb k 5) (bytes " marked " ++ decimal (mark_in k b)) (bytes " symbol")

unfoldable pub symbol_text : ℕ → List ℕ → List ℕ
symbol_text k b = symbol_head k b ++ after_spaces (map whole (coordinates_of k b))

unfoldable pub word_text : List ℕ → List ℕ
word_text b = bytes " word " ++ hex (word_of b)

unfoldable pub values_text : Role → ℕ → List ℕ → List ℕ
values_text Open k b = open_text k b
values_text Symbol k b = symbol_text k b
values_text Word k b = word_text b
values_text Finish k b = bytes " finish"
values_text Unknown k b = bytes " unknown"

unfoldable pub record_line : ℕ → Frame → List ℕ
record_line n f = (bytes "record " ++ decimal n) ++ (bytes " offset " ++ decimal f.at) ++ values_text (kind_of f.kind).role f.kind f.body ++ bytes "\n"

abbrev pub line_room : ℕ
line_room = 180
