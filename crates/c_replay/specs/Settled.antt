-- When the verdict on some bytes is settled: 02, Wish 7, "to take bytes as they come". What comes later cannot change it.
--   Settled bs v   whatever comes after the bytes bs, the verdict is v
--   Open bs        no verdict is settled yet
use Rattle.std.specs.Prelude.{ℕ, ◌≡◌, List, ◌++◌}
use Rattle.replay_judge.specs.declared.Verdict.{Verdict}
use Rattle.replay.specs.Meaning.{verdict_of}
use Rattle.replay.specs.Course.{capped_verdict}

abbrev pub Settled : List ℕ → Verdict → Type 0
Settled bs v = (zs : List ℕ) → capped_verdict (verdict_of (bs ++ zs)) ≡ v

abbrev pub Open : List ℕ → Type 0
Open bs = (v : Verdict) → Settled bs v → ⊥
