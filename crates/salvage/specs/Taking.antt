-- What the code does with one record, as functions. What it means is salvage_meaning/specs/Salvage.
--   waiting_for j, waiting_state s   the receiver as it is, and no word due: on this a record that is no word is run
--   moved_on j n t                 n words have an old one against them, and the counts are t
--   set_against j t g due           an old word g where the words `due` belong
--   Minded, minded_of r ..          a state and the counts beside it, and whether the record is written
--   ran s t r                      a record that is no word; minded s t r: any record; after a refusal nothing is looked at
use Rattle.std.specs.Prelude.{ℕ, ◌+◌, Bool, false, cond, List, [], ◌∷◌, eqb, length}
use Rattle.records.specs.Kinds.{kind_of}
use Rattle.records.specs.Values.{Entry, word_of}
use Rattle.records.specs.Frames.{capped}
use Rattle.replay_judge.specs.declared.Verdict.TheVariants.{Agree}
use Rattle.replay_judge.specs.declared.Judge.{Judge}
use Rattle.replay_judge.specs.Judging.{State, state_of, left_of, took}
use Rattle.replay.specs.Meaning.{agreed}
use Rattle.salvage_meaning.specs.Salvage.{is_word}
use Rattle.salvage.specs.declared.record.Tally.{Tally}
use Rattle.salvage.specs.declared.record.Outcome.{Outcome}

-- ---- the receiver as it is, and no word due

abbrev pub waiting_for : Judge → Judge
waiting_for j = record { live = j.live; core = j.core; given = 0; shown = 0; records = 0; verdict = Agree 0 }

abbrev pub waiting_state : State → State
waiting_state s = record { receiver = s.receiver; due = s.due; given = 0; shown = 0; records = 0; verdict = Agree 0 }

-- ---- an old word

abbrev pub counts : ℕ → ℕ → ℕ → ℕ → Tally
counts r a m k = record { replaced = r; added = a; removed = m; kept = k }

-- one more is replaced, unless they are the same
abbrev pub unless_same : ℕ → ℕ → ℕ → ℕ
unless_same g h n = cond (eqb g h) n (capped (n + 1))

abbrev pub tally_word : Tally → ℕ → List ℕ → Tally
tally_word t g [] = counts t.replaced t.added (capped (t.removed + 1)) (capped (t.kept + 5))
tally_word t g (h ∷ hs) = counts (unless_same g h t.replaced) t.added t.removed (capped (t.kept + 5))

abbrev pub shown_after : ℕ → List ℕ → ℕ
shown_after n [] = n
shown_after n (h ∷ hs) = n + 1

abbrev pub moved_on : Judge → ℕ → Tally → Outcome
moved_on j n t =
    record { judge = record { live = j.live; core = j.core; given = j.given; shown = n; records = j.records; verdict = j.verdict }; tally = t; writes = false }

unfoldable pub set_against : Judge → Tally → ℕ → List ℕ → Outcome
set_against j t g due = moved_on j (shown_after j.shown due) (tally_word t g due)

-- ---- any record

pub record Minded : Type 0 where
  pub state : State
  pub tally : Tally
  pub writes : Bool

abbrev pub minded_of : Outcome → List ℕ → List ℕ → List ℕ → List ℕ → Minded
minded_of r sums registers picks due = record { state = state_of r.judge sums registers picks due; tally = r.tally; writes = r.writes }

abbrev pub worded : State → Tally → ℕ → Minded
worded s t g =
    record {
      state = record { receiver = s.receiver; due = s.due; given = s.given; shown = shown_after s.shown (left_of s); records = s.records; verdict = s.verdict };
      tally = tally_word t g (left_of s);
      writes = false;
    }

-- words that no old one stood against are added; a record that is taken is kept
abbrev pub tally_ran : State → Tally → ℕ → Bool → Tally
tally_ran s t size b = counts t.replaced (capped (t.added + length (left_of s))) t.removed (cond b (capped (t.kept + (1 + size))) t.kept)

unfoldable pub ran : State → Tally → Entry → Minded
ran s t r =
    let n = took (waiting_state s) r in
    let b = agreed n.verdict in
    record { state = n; tally = tally_ran s t (kind_of r.kind).size b; writes = b }

unfoldable pub minded : State → Tally → Entry → Minded
minded s t r = cond (agreed s.verdict) (cond (is_word r) (worded s t (word_of r.body)) (ran s t r)) (record { state = s; tally = t; writes = false })
