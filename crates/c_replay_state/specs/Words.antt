-- A replay in words of 64 bits: which replay some words hold, and which words hold a replay. That words which hold a replay give it back is
-- proved in proofs/WordsBack.
--   holds_replay ws     whether the words hold a replay: enough of them, the tag, and no number above its limit
--   course_in ws        the replay that they hold
--   words_of c          the words that hold a replay
--   ListsPut           inside: the receiver's lists put in their place
--   CourseStored       a replay was put into words, and they read as it
use Rattle.std.specs.Prelude.{ℕ, ◌≡◌, Bool, true, ◌&&◌, List, ◌∷◌, ◌++◌, eqb, leb, get_or, length, take, drop}
use Rattle.replay_judge.specs.declared.Judge.{Judge}
use Rattle.replay_judge.specs.Judging.{State}
use Rattle.replay.specs.Course.{Course, course_of}
use Rattle.c_layout.specs.Halves.{unpacked, packed, AllHalves}
use Rattle.c_replay_state.specs.Table.{replay_tag, replay_length, sums_at, registers_at, picks_at, due_at, limits, due_limits, within}
use Rattle.c_replay_state.specs.Numbers.{frame_in, judge_in, numbers_of}

abbrev pub numbers_in : List ℕ → List ℕ
numbers_in ws = take 28 (drop 1 ws)

abbrev pub due_in : List ℕ → List ℕ
due_in ws = take 65 (drop due_at ws)

unfoldable pub holds_replay : List ℕ → Bool
holds_replay ws =
    leb replay_length (length ws) && (eqb (get_or ws 0 0) replay_tag && (within limits (numbers_in ws) && within due_limits (due_in ws)))

unfoldable pub course_in : List ℕ → Course
course_in ws =
    course_of (frame_in (numbers_in ws)) (judge_in (numbers_in ws)) (unpacked (take 8 (drop sums_at ws))) (take 48 (drop registers_at ws)) (take 72 (drop picks_at ws)) (due_in ws)

-- the judge of a state
abbrev pub judge_of : State → Judge
judge_of s = record { live = s.receiver.live; core = s.receiver.core; given = s.given; shown = s.shown; records = s.records; verdict = s.verdict }

-- the tag, 28 numbers, sixteen sums, two to a word, 48 registers, 72 words of picks and 65 words that are due
unfoldable pub words_of : Course → List ℕ
words_of c =
    let s = c.state in
    replay_tag ∷ (numbers_of c.frame (judge_of s) ++ (packed s.receiver.sums ++ (s.receiver.registers ++ (s.receiver.picks ++ s.due))))

-- inside: the receiver's lists, each of its length, in their places
pub record ListsPut (sums registers picks l o : List ℕ) : Type 0 where
  pub is : o ≡ take sums_at l ++ (packed sums ++ (registers ++ (picks ++ drop due_at l)))
  pub same : length o ≡ length l
  pub sums-fit : length sums ≡ 16
  pub sums-small : AllHalves sums
  pub registers-fit : length registers ≡ 48
  pub picks-fit : length picks ≡ 72

-- the words l with the replay in front, which then read as it
pub record CourseStored (c : Course) (l o : List ℕ) : Type 0 where
  pub words : o ≡ words_of c ++ drop replay_length l
  pub holds : holds_replay o ≡ true
  pub reads : course_in o ≡ c
