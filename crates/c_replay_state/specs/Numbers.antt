-- A frame and a judge as 28 numbers, and back. That the numbers of a frame and a judge read as them is proofs/NumbersBack.
--   stage_of, phase_of, verdict_in            what a number stands for; stage_number, phase_number, verdict_number which number stands for it
--   count_of, got_of, wanted_of               what a verdict says: a count or an offset, the word recorded, the word expected or the refusal
--   frame_in, core_in, judge_in               what some numbers hold
--   numbers_of f j                          the numbers of a frame and a judge
use Rattle.std.specs.Prelude.{ℕ, Bool, cond, List, [], ◌∷◌, eqb, get_or}
use Rattle.c_layout.specs.Accords.{accord_in, accord_word}
use Rattle.machine.specs.declared.Core.{Core}
use Rattle.records.specs.declared.Stage.{Stage}
use Rattle.records.specs.declared.Stage.TheVariants.{Fresh, Part, Whole, Bad}
use Rattle.records.specs.declared.Phase.{Phase}
use Rattle.records.specs.declared.Phase.TheVariants.{Start, Opened, Running, Over}
use Rattle.records.specs.declared.Frame.{Frame}
use Rattle.replay_judge.specs.declared.Verdict.{Verdict}
use Rattle.replay_judge.specs.declared.Verdict.TheVariants.{Agree, Differs, Extra, Missing, Refused, Malformed}
use Rattle.replay_judge.specs.declared.Judge.{Judge}

abbrev pub stage_number : Stage → ℕ
stage_number Fresh = 0
stage_number Part = 1
stage_number Whole = 2
stage_number Bad = 3

abbrev pub stage_of : ℕ → Stage
stage_of n = cond (eqb n 0) Fresh (cond (eqb n 1) Part (cond (eqb n 2) Whole Bad))

abbrev pub phase_number : Phase → ℕ
phase_number Start = 0
phase_number Opened = 1
phase_number Running = 2
phase_number Over = 3

abbrev pub phase_of : ℕ → Phase
phase_of n = cond (eqb n 0) Start (cond (eqb n 1) Opened (cond (eqb n 2) Running Over))

abbrev pub live_number : Bool → ℕ
live_number live = cond live 1 0

abbrev pub verdict_number : Verdict → ℕ
verdict_number (Agree n) = 0
verdict_number (Differs n g h) = 1
verdict_number (Extra n g) = 2
verdict_number (Missing n h) = 3
verdict_number (Refused n w) = 4
verdict_number (Malformed p) = 5

abbrev pub count_of : Verdict → ℕ
count_of (Agree n) = n
count_of (Differs n g h) = n
count_of (Extra n g) = n
count_of (Missing n h) = n
count_of (Refused n w) = n
count_of (Malformed p) = p

abbrev pub got_of : Verdict → ℕ
got_of (Agree n) = 0
got_of (Differs n g h) = g
got_of (Extra n g) = g
got_of (Missing n h) = 0
got_of (Refused n w) = 0
got_of (Malformed p) = 0

abbrev pub wanted_of : Verdict → ℕ
wanted_of (Agree n) = 0
wanted_of (Differs n g h) = h
wanted_of (Extra n g) = 0
wanted_of (Missing n h) = h
wanted_of (Refused n w) = w
wanted_of (Malformed p) = 0

abbrev pub verdict_in : ℕ → ℕ → ℕ → ℕ → Verdict
verdict_in k n g h =
    cond (eqb k 0) (Agree n)
    (cond (eqb k 1) (Differs n g h)
    (cond (eqb k 2) (Extra n g)
    (cond (eqb k 3) (Missing n h)
    (cond (eqb k 4) (Refused n h)
    (Malformed n)))))

unfoldable pub frame_in : List ℕ → Frame
frame_in ns =
    record {
      stage = stage_of (get_or ns 0 0);
      phase = phase_of (get_or ns 1 0);
      kind = get_or ns 2 0;
      have = get_or ns 18 0;
      body = get_or ns 3 0 ∷ get_or ns 4 0 ∷ get_or ns 5 0 ∷ get_or ns 6 0 ∷ get_or ns 7 0 ∷ get_or ns 8 0 ∷ get_or ns 9 0 ∷ get_or ns 10 0 ∷ get_or ns 11 0 ∷ [];
      at = get_or ns 19 0;
      fed = get_or ns 20 0;
    }

unfoldable pub core_in : List ℕ → Core
core_in ns =
    record { accord = accord_in (get_or ns 13 0); window = get_or ns 21 0; turn = get_or ns 14 0; slot = get_or ns 22 0; pending = get_or ns 23 0 }

unfoldable pub judge_in : List ℕ → Judge
judge_in ns =
    record {
      live = eqb (get_or ns 12 0) 1;
      core = core_in ns;
      given = get_or ns 24 0;
      shown = get_or ns 25 0;
      records = get_or ns 26 0;
      verdict = verdict_in (get_or ns 15 0) (get_or ns 27 0) (get_or ns 16 0) (get_or ns 17 0);
    }

unfoldable pub numbers_of : Frame → Judge → List ℕ
numbers_of f j =
    let b = f.body in
    let c = j.core in
    let v = j.verdict in
    stage_number f.stage ∷ phase_number f.phase ∷ f.kind ∷ get_or b 0 0 ∷ get_or b 1 0 ∷ get_or b 2 0 ∷ get_or b 3 0 ∷ get_or b 4 0 ∷ get_or b 5 0 ∷ get_or b 6 0 ∷ get_or b 7 0
    ∷ get_or b 8 0 ∷ live_number j.live ∷ accord_word c.accord ∷ c.turn ∷ verdict_number v ∷ got_of v ∷ wanted_of v
    ∷ f.have ∷ f.at ∷ f.fed ∷ c.window ∷ c.slot ∷ c.pending ∷ j.given ∷ j.shown ∷ j.records ∷ count_of v ∷ []
