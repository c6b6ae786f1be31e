-- A call in two steps, for the functions that make it: what becomes of the state and what is to be said, and then the line and `told`.
--   Said, refusal_number                 what is to be said, and the number of a refusal
--   number_of, line_after, told_after    what is given, and what `line` and `told` are once it is said; saying_of all of it
--   Room said line told               a verdict's line wants the room that `is_short` asks for
--   Tells                             it is said
--   Says call short said state        over any line and `told` that are short or not as `short` says, the call leaves this state and says this
--   Heard                             a lump does, and where it is done the state holds the replay that has gone on
use Rattle.std.specs.Prelude.{ℕ, ◌≤◌, ◌≡◌, Bool, List, ◌++◌, length, drop, set, Option, Some, None, Result, Ok, Err}
use Rattle.replay_judge.specs.declared.Verdict.{Verdict}
use Rattle.replay_text.specs.Says.{line_of}
use Rattle.c_replay.specs.declared.Refusal.{Refusal}
use Rattle.c_replay.specs.declared.Refusal.TheVariants.{Short, NoReplay}
use Rattle.c_replay_state.specs.Words.{course_in}
use Rattle.c_replay.specs.Calls.{Call, is_short, gone_on, feed_call}
use Rattle.c_replay.specs.Promise.{Keeps}

-- a verdict to say, or none, or why the call is refused
abbrev pub Said : Type 0
Said = Result (Option Verdict) Refusal

abbrev pub refusal_number : Refusal → ℕ
refusal_number Short = 8
refusal_number NoReplay = 9

abbrev pub number_of : Said → ℕ
number_of (Ok v) = 0
number_of (Err why) = refusal_number why

abbrev pub line_after : Said → List ℕ → List ℕ
line_after (Ok (Some v)) line = line_of v ++ drop (length (line_of v)) line
line_after (Ok None) line = line
line_after (Err why) line = line

abbrev pub told_after : Said → List ℕ → List ℕ
told_after (Ok (Some v)) told = set told 0 (length (line_of v))
told_after (Ok None) told = set told 0 0
told_after (Err why) told = set told 0 0

abbrev pub saying_of : Said → List ℕ → List ℕ → List ℕ → Call
saying_of said state line told = record { number = number_of said; state = state; line = line_after said line; told = told_after said told }

abbrev pub Room : Said → ℕ → ℕ → Type 0
Room (Ok (Some v)) line told = (64 ≤ line) × (1 ≤ told)
Room (Ok None) line told = Unit
Room (Err why) line told = Unit

pub record Tells (said : Said) (line told : List ℕ) (n : ℕ) (line' told' : List ℕ) : Type 0 where
  pub number : n ≡ number_of said
  pub line-is : line' ≡ line_after said line
  pub told_is : told' ≡ told_after said told

pub record Says (call : List ℕ → List ℕ → Call) (short : Bool) (said : Said) (state : List ℕ) : Type 0 where
  pub is : (line told : List ℕ) → is_short (length line) (length told) ≡ short → call line told ≡ saying_of said state line told
  pub room : (line told : ℕ) → is_short line told ≡ short → Room said line told

pub record Heard (before lump : List ℕ) (short : Bool) (said : Said) (after : List ℕ) : Type 0 where
  pub says : Says (feed_call before lump) short said after
  pub keeps : number_of said ≡ 0 → Keeps after (gone_on (course_in before) lump)
