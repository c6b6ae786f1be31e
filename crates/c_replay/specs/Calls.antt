-- What each call of a replay in lumps does, as a function of all that it is lent: the number it gives, and the lent memory after it.
--   Call                   the number; the state, the line and `told` after it
--   is_short line told      a line shorter than 64 places, or a `told` with none: 8
--   quiet, saying          nothing is said: told[0] is 0; a verdict's line is said, at the front of `line`, and its length is told[0]
--   is_found c, verdict_now c   a fault is found already; the verdict where the input ends here
--   start_call, feed_call, end_call
use Rattle.std.specs.Prelude.{ℕ, Bool, cond, ◌||◌, List, ◌++◌, ltb, length, drop, set}
use Rattle.replay_judge.specs.declared.Verdict.{Verdict}
use Rattle.replay.specs.Course.{Course, feedings, ended, found, replay_of, fresh_replay}
use Rattle.replay_text.specs.Says.{line_of}
use Rattle.c_replay_state.specs.Table.{replay_length}
use Rattle.c_replay_state.specs.Words.{holds_replay, course_in, words_of, judge_of}

pub record Call : Type 0 where
  pub number : ℕ
  pub state : List ℕ
  pub line : List ℕ
  pub told : List ℕ

unfoldable pub is_short : ℕ → ℕ → Bool
is_short line told = ltb told 1 || ltb line 64

abbrev pub quiet : ℕ → List ℕ → List ℕ → List ℕ → Call
quiet n state line told = record { number = n; state = state; line = line; told = set told 0 0 }

abbrev pub saying : Verdict → List ℕ → List ℕ → List ℕ → Call
saying v state line told = record { number = 0; state = state; line = line_of v ++ drop (length (line_of v)) line; told = set told 0 (length (line_of v)) }

abbrev pub is_found : Course → Bool
is_found c = found c.frame c.state.verdict

abbrev pub verdict_now : Course → Verdict
verdict_now c = ended c.frame (judge_of c.state) c.state.due

-- the words of a replay in a state
abbrev pub into : Course → List ℕ → List ℕ
into c state = words_of c ++ drop replay_length state

pub record Started : Type 0 where
  pub number : ℕ
  pub state : List ℕ

unfoldable pub start_call : List ℕ → Started
start_call state =
    cond (ltb (length state) replay_length) (record { number = 8; state = state }) (record { number = 0; state = into (replay_of fresh_replay) state })

-- 8, then 9, "then nothing is taken, told[0] is 0 where it exists, and all else stays"
abbrev pub refusing : Call → List ℕ → List ℕ → List ℕ → Call
refusing c state line told =
    cond (is_short (length line) (length told)) (quiet 8 state line told) (cond (holds_replay state) c (quiet 9 state line told))

-- the replay after a lump: "After a first fault all later bytes are swallowed with no further line"
unfoldable pub gone_on : Course → List ℕ → Course
gone_on c lump = cond (is_found c) c (feedings c lump)

abbrev pub fed : Course → List ℕ → List ℕ → List ℕ → List ℕ → Call
fed c lump state line told =
    let d = feedings c lump in
    cond (is_found c) (quiet 0 state line told) (cond (is_found d) (saying (verdict_now d) (into d state) line told) (quiet 0 (into d state) line told))

unfoldable pub feed_call : List ℕ → List ℕ → List ℕ → List ℕ → Call
feed_call state lump line told = refusing (fed (course_in state) lump state line told) state line told

-- the end of input: the verdict, unless a fault is said already; then the tag is 0, and the state holds no replay
abbrev pub over : Course → List ℕ → List ℕ → List ℕ → Call
over c state line told = cond (is_found c) (quiet 0 (set state 0 0) line told) (saying (verdict_now c) (set state 0 0) line told)

unfoldable pub end_call : List ℕ → List ℕ → List ℕ → Call
end_call state line told = refusing (over (course_in state) state line told) state line told
