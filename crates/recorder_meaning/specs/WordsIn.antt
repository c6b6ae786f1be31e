-- The words that a capture records: 02, Wish 2, "Kind 3, word released: 4 bytes, low byte first".
--   words_of rs   the words of the word records among rs, in order
--   words_in bs   those of a capture's bytes
use Rattle.std.specs.Prelude.{ℕ, List, [], ◌∷◌}
use Rattle.records.specs.declared.Role.{Role}
use Rattle.records.specs.declared.Role.TheVariants.{Open, Symbol, Word, Finish, Unknown}
use Rattle.records.specs.Kinds.{kind_of}
use Rattle.records.specs.Values.{Entry, word_of}
use Rattle.records.specs.Reading.{reading_of}

abbrev pub words_after : Role → List ℕ → List ℕ → List ℕ
words_after Word body ws = word_of body ∷ ws
words_after Open body ws = ws
words_after Symbol body ws = ws
words_after Finish body ws = ws
words_after Unknown body ws = ws

unfoldable pub words_of : List Entry → List ℕ
words_of [] = []
words_of (r ∷ rs) = words_after (kind_of r.kind).role r.body (words_of rs)

abbrev pub words_in : List ℕ → List ℕ
words_in bs = words_of (reading_of bs).records
