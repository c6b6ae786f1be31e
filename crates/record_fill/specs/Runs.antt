-- A run of bytes that goes into a frame at once, as functions: what the code does. What a byte does is `pushed` (records/specs/Frames).
--   inside f          the frame waits for more of a body, of which any bytes will do: not one of kind 5
--   gathered f n xs   the frame after n bytes more of the body, xs
--   run_of f bs        how many of the bytes go at once: the rest of a body as far as it is there, or one
--   Advances f bs g n    the first n of the bytes bs, pushed one by one, give the frame g, and no record is whole before the last of them
use Rattle.std.specs.Prelude.{ℕ, ◌+◌, ◌-◌, min, ◌≡◌, Bool, false, cond, List, eqb, ltb, length, take}
use Rattle.std.proofs.lemmas.List.Edits.{sets}
use Rattle.records.specs.declared.Stage.{Stage}
use Rattle.records.specs.declared.Stage.TheVariants.{Fresh, Part, Whole, Bad}
use Rattle.records.specs.declared.Frame.{Frame}
use Rattle.records.specs.Kinds.{kind_of}
use Rattle.records.specs.Frames.{capped, stage_at, ended, following}

abbrev pub inside_at : Stage → ℕ → ℕ → Bool
inside_at Fresh have size = false
inside_at Part have size = ltb have size
inside_at Whole have size = false
inside_at Bad have size = false

abbrev pub inside : Frame → Bool
inside f = cond (eqb f.kind 5) false (inside_at f.stage f.have (kind_of f.kind).size)

abbrev pub gathered : Frame → ℕ → List ℕ → Frame
gathered f n xs =
    record {
      stage = stage_at (f.have + n) (kind_of f.kind).size;
      phase = f.phase;
      kind = f.kind;
      have = f.have + n;
      body = sets f.body f.have xs;
      at = f.at;
      fed = capped (f.fed + n);
    }

unfoldable pub run_of : Frame → List ℕ → ℕ
run_of f bs = cond (inside f) (min ((kind_of f.kind).size - f.have) (length bs)) 1

pub record Advances (f : Frame) (bs : List ℕ) (g : Frame) (n : ℕ) : Type 0 where
  pub count : n ≡ run_of f bs
  pub pushes : following f (take n bs) ≡ record { entries = ended g.stage g; frame = g }
