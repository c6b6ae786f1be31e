-- The promises of a replay in lumps: the number given and all lent memory after the call are those of specs/Calls, for every input. As each is
-- an equation, any two results are equal. Where a call was done, the state then holds the replay that has gone on.
--   Starts, Feeds, Ends    one for each call
use Rattle.std.specs.Prelude.{ℕ, ◌≡◌, true, List}
use Rattle.replay.specs.Course.{Course, replay_of, fresh_replay}
use Rattle.c_replay_state.specs.Words.{holds_replay, course_in}
use Rattle.c_replay.specs.Calls.{Call, Started, gone_on}

-- words that hold this replay
abbrev pub Keeps : List ℕ → Course → Type 0
Keeps ws c = (holds_replay ws ≡ true) × (course_in ws ≡ c)

pub record Starts (c : Started) (n : ℕ) (state : List ℕ) : Type 0 where
  pub number : n ≡ c.number
  pub state-is : state ≡ c.state
  pub keeps : n ≡ 0 → Keeps state (replay_of fresh_replay)

pub record Feeds (before lump : List ℕ) (c : Call) (n : ℕ) (state line told : List ℕ) : Type 0 where
  pub number : n ≡ c.number
  pub state-is : state ≡ c.state
  pub line-is : line ≡ c.line
  pub told_is : told ≡ c.told
  pub keeps : n ≡ 0 → Keeps state (gone_on (course_in before) lump)

pub record Ends (c : Call) (n : ℕ) (state line told : List ℕ) : Type 0 where
  pub number : n ≡ c.number
  pub state-is : state ≡ c.state
  pub line-is : line ≡ c.line
  pub told_is : told ≡ c.told
