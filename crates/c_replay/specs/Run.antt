-- Runs of calls: a start, any lumps, the end. Each call is known by its promise alone, so the runs of the library's own calls are such runs.
--   said_in told line        what a call said: told[0] bytes at the front of its line
--   Fed s xs w t            from the state s the lumps xs were fed, in calls that said the bytes w, joined; the state is now t. A call that
--                           was refused takes no lump
--   all_of xs                the bytes of some lumps
use Rattle.std.specs.Prelude.{ℕ, ◌≡◌, List, [], ◌∷◌, ◌++◌, get_or, take}
use Rattle.c_replay.specs.Calls.{feed_call}
use Rattle.c_replay.specs.Promise.{Feeds}

abbrev pub said_in : List ℕ → List ℕ → List ℕ
said_in told line = take (get_or told 0 0) line

unfoldable pub all_of : List (List ℕ) → List ℕ
all_of [] = []
all_of (x ∷ xs) = x ++ all_of xs

pub data Fed : List ℕ → List (List ℕ) → List ℕ → List ℕ → Type 0 where
  none : {s : List ℕ} → Fed s [] [] s
  lump : {s t u x w : List ℕ} {xs : List (List ℕ)} (line told line' told' : List ℕ) →
      Feeds s x (feed_call s x line told) 0 t line' told' → Fed t xs w u → Fed s (x ∷ xs) (said_in told' line' ++ w) u
  refused : {s t u x w : List ℕ} {xs : List (List ℕ)} (n : ℕ) (line told line' told' : List ℕ) →
      Feeds s x (feed_call s x line told) n t line' told' → (n ≡ 0 → ⊥) → Fed t xs w u → Fed s xs w u
