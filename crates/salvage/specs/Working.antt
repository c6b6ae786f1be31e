-- What the code does with bytes, as functions. What it means is salvage_meaning/specs/Salvage; that they agree is proofs/Meant.
--   Held, held_of f ..       a frame, a state and the counts: all that a salvage holds
--   settled, stepped h b    one byte; feedings h bs: some bytes
--   standing w f n due      what is written, if w says so: the record of the frame f, and the words that belong there
--   written_at h b, outs h bs   the records that are written meanwhile
--   Feeds h bs page h' n size page'   of the bytes bs the first n lead from h to h', and what is written for them fills `size` bytes of the page
--   end_of h fed             what was changed, where the input ends after so many bytes
--   salvage_at s, fresh_salvage   a salvage by value, and the one before any byte
use Rattle.std.specs.Prelude.{ℕ, ◌+◌, ◌-◌, ◌<◌, ◌≤◌, ◌≡◌, Bool, false, cond, List, [], ◌∷◌, ◌++◌, length, take}
use Rattle.records.specs.declared.Frame.{Frame}
use Rattle.records.specs.Values.{Entry, bytes_of}
use Rattle.records.specs.Frames.{capped, pushed, entry_of}
use Rattle.record_write.specs.Front.{word_entries, space_of}
use Rattle.page.specs.Page.{Puts}
use Rattle.replay_judge.specs.declared.Judge.{Judge}
use Rattle.replay_judge.specs.Judging.{State, state_of, left_of}
use Rattle.replay.specs.Course.{is_whole, fresh_replay}
use Rattle.salvage.specs.declared.record.Tally.{Tally}
use Rattle.salvage.specs.Taking.{counts, Minded, minded}
use Rattle.salvage.specs.declared.Salvage.{Salvage}
use Rattle.salvage.specs.declared.Changes.{Changes}

pub record Held : Type 0 where
  pub frame : Frame
  pub state : State
  pub tally : Tally

abbrev pub held_of : Frame → Judge → Tally → List ℕ → List ℕ → List ℕ → List ℕ → Held
held_of f j t sums registers picks due = record { frame = f; state = state_of j sums registers picks due; tally = t }

-- the record of a frame, if it has just become whole
unfoldable pub settled : Bool → State → Tally → Entry → Minded
settled b s t r = cond b (minded s t r) (record { state = s; tally = t; writes = false })

abbrev pub settled_at : Held → Frame → Minded
settled_at h f = settled (is_whole f.stage) h.state h.tally (entry_of f)

abbrev pub held_by : Frame → Minded → Held
held_by f m = record { frame = f; state = m.state; tally = m.tally }

unfoldable pub stepped : Held → ℕ → Held
stepped h b = let f = pushed h.frame b in held_by f (settled_at h f)

unfoldable pub feedings : Held → List ℕ → Held
feedings h [] = h
feedings h (b ∷ bs) = feedings (stepped h b) bs

-- ---- what is written

abbrev pub with_words : Bool → Entry → ℕ → List ℕ → List Entry
with_words w r given due = cond w (r ∷ word_entries (take given due)) []

abbrev pub standing : Bool → Frame → ℕ → List ℕ → List Entry
standing w f given due = with_words w (entry_of f) given due

abbrev pub written : Minded → Entry → List Entry
written m r = with_words m.writes r m.state.given m.state.due

unfoldable pub written_at : Held → ℕ → List Entry
written_at h b = let f = pushed h.frame b in written (settled_at h f) (entry_of f)

unfoldable pub outs : Held → List ℕ → List Entry
outs h [] = []
outs h (b ∷ bs) = written_at h b ++ outs (stepped h b) bs

-- ---- a lump and a page

-- a record with its words takes 335 bytes at most: the bytes are taken as long as so many are free, and `used` is settled by that
pub record Feeds (h : Held) (bs page : List ℕ) (h' : Held) (used size : ℕ) (page' : List ℕ) : Type 0 where
  pub few : used ≤ length bs
  pub held : h' ≡ feedings h (take used bs)
  pub wrote : Puts page 0 (bytes_of (outs h (take used bs))) size page'
  pub fits : size ≤ length page
  pub room : (k : ℕ) → k < used → space_of (outs h (take k bs)) + 335 ≤ length page
  pub stops : used < length bs → length page < size + 335

-- ---- the end

abbrev pub changes_of : ℕ → ℕ → ℕ → ℕ → Changes
changes_of r a m c = record { replaced = r; added = a; removed = m; cut = c }

-- words that no old one stood against are added; "bytes cut from the end" are all but those of the records kept
abbrev pub end_of : Held → ℕ → Changes
end_of h fed =
    let t = h.tally in
    changes_of t.replaced (capped (t.added + length (left_of h.state))) t.removed (fed - t.kept)

-- ---- by value

abbrev pub salvage_at : Salvage → Held
salvage_at s = let r = s.replay in held_of r.frame r.judge s.tally r.sums r.registers r.picks r.due

abbrev pub fresh_salvage : Salvage
fresh_salvage = record { replay = fresh_replay; tally = counts 0 0 0 0 }
