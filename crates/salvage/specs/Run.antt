-- A run of a salvage: whatever lumps the bytes come in, and whatever pages are lent.
--   Ran s bs out     s is what calls of `feed` made of the bytes bs, and `out` is what they put into their pages, one page after the other
--   Reported c bs    c has the four numbers of the salvage of bs; a count that would pass 64 bits stays at the last number
use Rattle.std.specs.Prelude.{ℕ, ◌≤◌, ◌≡◌, true, List, [], ◌++◌, length, take}
use Rattle.records.specs.Frames.{capped}
use Rattle.replay.specs.Course.{found}
use Rattle.salvage_meaning.specs.Salvage.{salvage_of}
use Rattle.salvage.specs.declared.Salvage.{Salvage}
use Rattle.salvage.specs.declared.Changes.{Changes}
use Rattle.salvage.specs.Working.{Feeds, salvage_at, fresh_salvage}

-- `skips`: once a place is malformed or a record refused, later bytes need not be fed
pub data Ran : Salvage → List ℕ → List ℕ → Type 0 where
  starts : Ran fresh_salvage [] []
  feeds : {s r : Salvage} {bs out lump page page' : List ℕ} {used size : ℕ} → Ran s bs out → Feeds (salvage_at s) lump page (salvage_at r) used size page'
      → Ran r (bs ++ take used lump) (out ++ take size page')
  skips : {s : Salvage} {bs out : List ℕ} → Ran s bs out → found s.replay.frame s.replay.judge.verdict ≡ true → (ys : List ℕ) → Ran s (bs ++ ys) out

pub record Reported (c : Changes) (bs : List ℕ) : Type 0 where
  pub replaced : c.replaced ≡ capped (salvage_of bs).replaced
  pub added : c.added ≡ capped (salvage_of bs).added
  pub removed : c.removed ≡ capped (salvage_of bs).removed
  pub cut : length bs ≤ 18446744073709551615 → c.cut ≡ (salvage_of bs).cut
