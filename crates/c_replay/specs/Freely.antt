-- Runs of calls, more freely: calls of an end may be refused between the lumps, and a state may be copied, where a copy is any words that
-- hold the same replay. Each run of specs/Run is one of these (proofs/Runs, `freely`).
--   FedFreely s xs w t   from the state s the lumps xs were fed, in calls that said the bytes w, joined; the state is now t
use Rattle.std.specs.Prelude.{ℕ, ◌≡◌, List, [], ◌∷◌, ◌++◌}
use Rattle.c_replay_state.specs.Words.{holds_replay, course_in}
use Rattle.c_replay.specs.Calls.{feed_call, end_call}
use Rattle.c_replay.specs.Promise.{Feeds, Ends}
use Rattle.c_replay.specs.Run.{said_in}

pub data FedFreely : List ℕ → List (List ℕ) → List ℕ → List ℕ → Type 0 where
  none : {s : List ℕ} → FedFreely s [] [] s
  lump : {s t u x w : List ℕ} {xs : List (List ℕ)} (line told line' told' : List ℕ) →
      Feeds s x (feed_call s x line told) 0 t line' told' → FedFreely t xs w u → FedFreely s (x ∷ xs) (said_in told' line' ++ w) u
  refused : {s t u x w : List ℕ} {xs : List (List ℕ)} (n : ℕ) (line told line' told' : List ℕ) →
      Feeds s x (feed_call s x line told) n t line' told' → (n ≡ 0 → ⊥) → FedFreely t xs w u → FedFreely s xs w u
  refused_end : {s t u w : List ℕ} {xs : List (List ℕ)} (n : ℕ) (line told line' told' : List ℕ) →
      Ends (end_call s line told) n t line' told' → (n ≡ 0 → ⊥) → FedFreely t xs w u → FedFreely s xs w u
  copied : {s t u w : List ℕ} {xs : List (List ℕ)} → holds_replay t ≡ holds_replay s → course_in t ≡ course_in s → FedFreely t xs w u → FedFreely s xs w u
