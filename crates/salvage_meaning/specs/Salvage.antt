-- The salvage of a damaged capture, in the words of 02, Wish 13: from the bytes to the bytes that are written and the four numbers. This is what a
-- reader believes. The receiver stands here as in a replay (replay/specs/Meaning): as what it has been told and owes.
--   is_word r         the record is a word's; on any other the receiver is run
--   running l r      what a replay sees of such a record on the line l, where no word is due: the verdict says whether it is taken, `line` is the line
--                    after it, `due` the words that belong there
--   kept l rs        the records that are kept
--   mended l rs      the records that are written for them
--   words_after rs    for each record that is no word, the words right after it
--   replaced_in old new, added_in, removed_in   what is changed where the words `new` stand for the words `old`
--   changes f olds news   the same, of all of them
--   salvage_of bs     THE SALVAGE of a capture
use Rattle.std.specs.Prelude.{ℕ, ◌+◌, ◌-◌, Bool, true, false, cond, List, [], ◌∷◌, ◌++◌, eqb, length}
use Rattle.records.specs.declared.Role.{Role}
use Rattle.records.specs.declared.Role.TheVariants.{Open, Symbol, Word, Finish, Unknown}
use Rattle.records.specs.Kinds.{kind_of}
use Rattle.records.specs.Values.{Entry, word_of, bytes_of}
use Rattle.records.specs.Reading.{reading_of}
use Rattle.record_write.specs.Front.{word_entries}
use Rattle.replay_judge.specs.declared.Verdict.TheVariants.{Agree}
use Rattle.replay.specs.Meaning.{Line, closed, agreed, Seen, taking}

-- ---- the records

abbrev pub is_word_role : Role → Bool
is_word_role Open = false
is_word_role Symbol = false
is_word_role Word = true
is_word_role Finish = false
is_word_role Unknown = false

abbrev pub is_word : Entry → Bool
is_word r = is_word_role (kind_of r.kind).role

-- "runs the receiver"
abbrev pub waiting : Line → Seen
waiting l = record { line = l; due = []; number = 0; verdict = Agree 0 }

abbrev pub running : Line → Entry → Seen
running l r = taking (waiting l) r

-- "keeps records up to the first malformed place or refused symbol": those of a reading stop at the malformed place
unfoldable pub kept : Line → List Entry → List Entry
kept l [] = []
kept l (r ∷ rs) = let s = running l r in cond (is_word r) (r ∷ kept l rs) (cond (agreed s.verdict) (r ∷ kept s.line rs) [])

-- "drops all word records, runs the receiver, and writes a capture with the words that belong there"
unfoldable pub mended : Line → List Entry → List Entry
mended l [] = []
mended l (r ∷ rs) = let s = running l r in cond (is_word r) (mended l rs) (r ∷ (word_entries s.due ++ mended s.line rs))

-- ---- what it changed

-- records by those that are no words: the words before the first of them, and those after each
pub record Grouped : Type 0 where
  pub front : List ℕ
  pub later : List (List ℕ)

unfoldable pub grouped : List Entry → Grouped
grouped [] = record { front = []; later = [] }
grouped (r ∷ rs) =
    let g = grouped rs in
    cond (is_word r) (record { front = word_of r.body ∷ g.front; later = g.later }) (record { front = []; later = g.front ∷ g.later })

abbrev pub words_after : List Entry → List (List ℕ)
words_after rs = (grouped rs).later

-- "the k-th old word after a symbol or finish is set against the k-th new one": "words replaced, words added, words removed"
unfoldable pub replaced_in : List ℕ → List ℕ → ℕ
replaced_in [] new = 0
replaced_in (g ∷ old) [] = 0
replaced_in (g ∷ old) (h ∷ new) = cond (eqb g h) 0 1 + replaced_in old new

abbrev pub added_in : List ℕ → List ℕ → ℕ
added_in old new = length new - length old

abbrev pub removed_in : List ℕ → List ℕ → ℕ
removed_in old new = length old - length new

unfoldable pub changes : (List ℕ → List ℕ → ℕ) → List (List ℕ) → List (List ℕ) → ℕ
changes f [] news = 0
changes f (old ∷ olds) [] = 0
changes f (old ∷ olds) (new ∷ news) = f old new + changes f olds news

-- ---- the whole

pub record Salvage : Type 0 where
  pub bytes : List ℕ
  pub replaced : ℕ
  pub added : ℕ
  pub removed : ℕ
  pub cut : ℕ

-- what is salvaged of `many` bytes if these records are kept: "bytes cut from the end" are those of no record that is kept
abbrev pub salvage_by : List Entry → ℕ → Salvage
salvage_by old many =
    let new = mended closed old in
    record {
      bytes = bytes_of new;
      replaced = changes replaced_in (words_after old) (words_after new);
      added = changes added_in (words_after old) (words_after new);
      removed = changes removed_in (words_after old) (words_after new);
      cut = many - length (bytes_of old);
    }

unfoldable pub salvage_of : List ℕ → Salvage
salvage_of bs = salvage_by (kept closed (reading_of bs).records) (length bs)
