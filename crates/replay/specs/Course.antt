-- What the code does with bytes, as functions. What it means is specs/Meaning.
--   Course, course_of ..    a frame and a state: all that a replay holds
--   settled, stepped c b   one byte; feedings c bs: a lump
--   ended f j due          the verdict where the input ends
--   found f v              a fault is found already
--   replay_of r, fresh_replay   a replay by value, and the one before any byte
--   capped_verdict v        a verdict whose counts and offsets stay at the end of 64 bits
use Rattle.std.specs.Prelude.{ℕ, Bool, true, false, cond, List, [], ◌∷◌, replicate}
use Rattle.machine.specs.Machine.{shut}
use Rattle.records.specs.declared.Stage.{Stage}
use Rattle.records.specs.declared.Stage.TheVariants.{Fresh, Part, Whole, Bad}
use Rattle.records.specs.declared.Frame.{Frame}
use Rattle.records.specs.Values.{Entry}
use Rattle.records.specs.Frames.{capped, fresh, pushed, entry_of}
use Rattle.replay_judge.specs.declared.Verdict.{Verdict}
use Rattle.replay_judge.specs.declared.Verdict.TheVariants.{Agree, Differs, Extra, Missing, Refused, Malformed}
use Rattle.replay_judge.specs.declared.Judge.{Judge}
use Rattle.replay_judge.specs.Judging.{State, state_of, left, took}
use Rattle.replay.specs.declared.Replay.{Replay}
use Rattle.replay.specs.Meaning.{agreed}

pub record Course : Type 0 where
  pub frame : Frame
  pub state : State

abbrev pub course_of : Frame → Judge → List ℕ → List ℕ → List ℕ → List ℕ → Course
course_of f j sums registers picks due = record { frame = f; state = state_of j sums registers picks due }

abbrev pub is_whole : Stage → Bool
is_whole Fresh = false
is_whole Part = false
is_whole Whole = true
is_whole Bad = false

abbrev pub is_bad : Stage → Bool
is_bad Fresh = false
is_bad Part = false
is_bad Whole = false
is_bad Bad = true

unfoldable pub settled : Bool → State → Entry → State
settled b s r = cond b (took s r) s

unfoldable pub stepped : Course → ℕ → Course
stepped c b = let f = pushed c.frame b in record { frame = f; state = settled (is_whole f.stage) c.state (entry_of f) }

unfoldable pub feedings : Course → List ℕ → Course
feedings c [] = c
feedings c (b ∷ bs) = feedings (stepped c b) bs

abbrev pub unless_left : Verdict → ℕ → List ℕ → Verdict
unless_left v n [] = v
unless_left v n (h ∷ hs) = Missing n h

unfoldable pub ended : Frame → Judge → List ℕ → Verdict
ended f j due =
    cond (agreed j.verdict) (cond (is_whole f.stage) (unless_left j.verdict j.records (left j.shown j.given due)) (Malformed f.at)) j.verdict

unfoldable pub found : Frame → Verdict → Bool
found f v = cond (agreed v) (is_bad f.stage) true

abbrev pub replay_of : Replay → Course
replay_of r = course_of r.frame r.judge r.sums r.registers r.picks r.due

abbrev pub fresh_judge : Judge
fresh_judge = record { live = shut.live; core = shut.core; given = 0; shown = 0; records = 0; verdict = Agree 0 }

abbrev pub fresh_replay : Replay
fresh_replay = record { frame = fresh; judge = fresh_judge; sums = shut.sums; registers = shut.registers; picks = shut.picks; due = replicate 65 0 }

abbrev pub capped_verdict : Verdict → Verdict
capped_verdict (Agree n) = Agree (capped n)
capped_verdict (Differs n g h) = Differs (capped n) g h
capped_verdict (Extra n g) = Extra (capped n) g
capped_verdict (Missing n h) = Missing (capped n) h
capped_verdict (Refused n w) = Refused (capped n) w
capped_verdict (Malformed p) = Malformed (capped p)
