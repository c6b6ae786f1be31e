-- The numbers of a frame and a judge read as them.
--   frame_back, judge-back    the laws; a frame's body has nine bytes, and a width 32 bits
--   live-from                 whether it is live, as the code makes a number of it
--   fit                       the first eighteen numbers within their limits
use mathlib.Core.Path.{◌≡◌, refl}
use mathlib.Core.Bool.{Bool, true, false}
use mathlib.Core.List.{List, [], ◌∷◌}
use Prim.Native.Nat.{ℕ, ◌+◌, ◌*◌, ◌^◌, ◌≤◌}
use native.Mathlib.Omega.{arith}
use borrow.Author.Tests.{le-leb}
use lib.Dec.{eqb}
use lib.ListN.{get_or, length}
use Rattle.std.specs.Int.{from_bool}
use Rattle.points.specs.declared.Map.{Map}
use Rattle.points.specs.declared.Map.TheVariants.{Round, Square}
use Rattle.points.specs.declared.Accord.{Accord}
use Rattle.c_layout.specs.Accords.{number_of, accord_word}
use Rattle.c_layout.proofs.AccordsBack.{accord-back}
use Rattle.records.specs.declared.Stage.{Stage}
use Rattle.records.specs.declared.Stage.TheVariants.{Fresh, Part, Whole, Bad}
use Rattle.records.specs.declared.Phase.{Phase}
use Rattle.records.specs.declared.Phase.TheVariants.{Start, Opened, Running, Over}
use Rattle.records.specs.declared.Frame.{Frame}
use Rattle.replay_judge.specs.declared.Verdict.{Verdict}
use Rattle.replay_judge.specs.declared.Verdict.TheVariants.{Agree, Differs, Extra, Missing, Refused, Malformed}
use Rattle.replay_judge.specs.declared.Judge.{Judge}
use Rattle.c_replay_state.specs.Table.{half, accord_limit, limits, within}
use Rattle.c_replay_state.specs.Numbers.{stage_of, stage_number, phase_of, phase_number, live_number, verdict_in, verdict_number, count_of, got_of, wanted_of, frame_in, core_in, judge_in, numbers_of}

stage-back : (s : Stage) → stage_of (stage_number s) ≡ s
stage-back Fresh = refl
stage-back Part = refl
stage-back Whole = refl
stage-back Bad = refl

phase-back : (p : Phase) → phase_of (phase_number p) ≡ p
phase-back Start = refl
phase-back Opened = refl
phase-back Running = refl
phase-back Over = refl

pub live-from : (b : Bool) → from_bool b ≡ live_number b
live-from true = refl
live-from false = refl

live_back : (b : Bool) → eqb (live_number b) 1 ≡ b
live_back true = refl
live_back false = refl

verdict-back : (v : Verdict) → verdict_in (verdict_number v) (count_of v) (got_of v) (wanted_of v) ≡ v
verdict-back (Agree n) = refl
verdict-back (Differs n g h) = refl
verdict-back (Extra n g) = refl
verdict-back (Missing n h) = refl
verdict-back (Refused n w) = refl
verdict-back (Malformed p) = refl

nine : (b : List ℕ) → length b ≡ 9 → get_or b 0 0 ∷ get_or b 1 0 ∷ get_or b 2 0 ∷ get_or b 3 0 ∷ get_or b 4 0 ∷ get_or b 5 0 ∷ get_or b 6 0 ∷ get_or b 7 0 ∷ get_or b 8 0 ∷ [] ≡ b
nine (a ∷ b ∷ c ∷ d ∷ e ∷ f ∷ g ∷ h ∷ i ∷ []) n = refl
nine [] n = absurd (omega arith)
nine (a ∷ []) n = absurd (omega arith)
nine (a ∷ b ∷ []) n = absurd (omega arith)
nine (a ∷ b ∷ c ∷ []) n = absurd (omega arith)
nine (a ∷ b ∷ c ∷ d ∷ []) n = absurd (omega arith)
nine (a ∷ b ∷ c ∷ d ∷ e ∷ []) n = absurd (omega arith)
nine (a ∷ b ∷ c ∷ d ∷ e ∷ f ∷ []) n = absurd (omega arith)
nine (a ∷ b ∷ c ∷ d ∷ e ∷ f ∷ g ∷ []) n = absurd (omega arith)
nine (a ∷ b ∷ c ∷ d ∷ e ∷ f ∷ g ∷ h ∷ []) n = absurd (omega arith)
nine (a ∷ b ∷ c ∷ d ∷ e ∷ f ∷ g ∷ h ∷ i ∷ j ∷ l) n = absurd (omega arith)

pub frame_back : (f : Frame) (j : Judge) → length f.body ≡ 9 → frame_in (numbers_of f j) ≡ f
unfolding frame_in numbers_of
frame_back f j n = λ i. record { stage = stage-back f.stage i; phase = phase-back f.phase i; kind = f.kind; have = f.have; body = nine f.body n i; at = f.at; fed = f.fed }

pub judge-back : (f : Frame) (j : Judge) → j.core.accord.u ≤ half → judge_in (numbers_of f j) ≡ j
unfolding judge_in core_in numbers_of
judge-back f j h =
    let a = accord-back j.core.accord (omega arith) in
    let c = j.core in
    λ i.
    record {
      live = live_back j.live i;
      core = record { accord = a i; window = c.window; turn = c.turn; slot = c.slot; pending = c.pending };
      given = j.given;
      shown = j.shown;
      records = j.records;
      verdict = verdict-back j.verdict i;
    }

accord-small : (k : Accord) → k.u ≤ half → accord_word k ≤ accord_limit
unfolding accord_word
accord-small k h = go k.map
  where
    go : (n : Map) → number_of n * 2 ^ 32 + k.u ≤ accord_limit
    go Round = omega arith
    go Square = omega arith

stage-small : (s : Stage) → stage_number s ≤ 3
stage-small Fresh = omega arith
stage-small Part = omega arith
stage-small Whole = omega arith
stage-small Bad = omega arith

phase-small : (p : Phase) → phase_number p ≤ 3
phase-small Start = omega arith
phase-small Opened = omega arith
phase-small Running = omega arith
phase-small Over = omega arith

live_small : (b : Bool) → live_number b ≤ 1
live_small true = omega arith
live_small false = omega arith

verdict-small : (v : Verdict) → verdict_number v ≤ 5
verdict-small (Agree n) = omega arith
verdict-small (Differs n g h) = omega arith
verdict-small (Extra n g) = omega arith
verdict-small (Missing n h) = omega arith
verdict-small (Refused n w) = omega arith
verdict-small (Malformed p) = omega arith

-- nine bytes
abbrev pub Bytes : List ℕ → Type 0
Bytes b =
    (get_or b 0 0 ≤ 255) × (get_or b 1 0 ≤ 255) × (get_or b 2 0 ≤ 255) × (get_or b 3 0 ≤ 255) × (get_or b 4 0 ≤ 255) × (get_or b 5 0 ≤ 255) × (get_or b 6 0 ≤ 255) × (get_or b 7 0 ≤ 255)
    × (get_or b 8 0 ≤ 255)

-- bytes are bytes, and numbers of 32 bits fit them
pub fit : (f : Frame) (j : Judge) → f.kind ≤ 255 → Bytes f.body → j.core.accord.u ≤ half → j.core.turn ≤ half
    → got_of j.verdict ≤ half → wanted_of j.verdict ≤ half → within limits (numbers_of f j) ≡ true
unfolding within numbers_of
fit f j k b u r g w =
    rw (
      le-leb (stage_number f.stage) 3 (stage-small f.stage),
      le-leb (phase_number f.phase) 3 (phase-small f.phase),
      le-leb f.kind 255 k,
      le-leb (get_or f.body 0 0) 255 b.0,
      le-leb (get_or f.body 1 0) 255 b.1,
      le-leb (get_or f.body 2 0) 255 b.2,
      le-leb (get_or f.body 3 0) 255 b.3,
      le-leb (get_or f.body 4 0) 255 b.4,
      le-leb (get_or f.body 5 0) 255 b.5,
      le-leb (get_or f.body 6 0) 255 b.6,
      le-leb (get_or f.body 7 0) 255 b.7,
      le-leb (get_or f.body 8 0) 255 b.8,
      le-leb (live_number j.live) 1 (live_small j.live),
      le-leb (accord_word j.core.accord) accord_limit (accord-small j.core.accord u),
      le-leb j.core.turn half r,
      le-leb (verdict_number j.verdict) 5 (verdict-small j.verdict),
      le-leb (got_of j.verdict) half g,
      le-leb (wanted_of j.verdict) half w,
    )
