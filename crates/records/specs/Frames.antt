-- The byte step, as functions on frames: what the code does. What it means is specs/Reading.
--   capped n         a count at the end of 64 bits: it stays at the last number
--   fresh            the frame before any byte
--   begun f k        a kind byte; grown f b: a byte of a body, if it may grow by it; pushed f b: one byte more
--   entry_of f        the record that a whole frame holds
--   Read, following f bs   the records that become whole while the bytes bs are pushed, and the frame after them
--   ending_of f       what the end of input says of a frame
--   capped_ending e   an ending, its offset at the end of 64 bits
use Rattle.std.specs.Prelude.{ℕ, ◌+◌, Bool, cond, ◌&&◌, List, [], ◌∷◌, ◌++◌, ltb, get_or, take, set, replicate}
use Rattle.records.specs.declared.Phase.TheVariants.{Start}
use Rattle.records.specs.declared.Stage.{Stage}
use Rattle.records.specs.declared.Stage.TheVariants.{Fresh, Part, Whole, Bad}
use Rattle.records.specs.declared.Frame.{Frame}
use Rattle.records.specs.Kinds.{kind_of, may_stand, after_role}
use Rattle.records.specs.Values.{Entry, entry, byte_fits}
use Rattle.records.specs.Reading.{Ending, clean, malformed}

unfoldable pub capped : ℕ → ℕ
capped n = cond (ltb n 18446744073709551615) n 18446744073709551615

abbrev pub stage_at : ℕ → ℕ → Stage
stage_at have size = cond (ltb have size) Part Whole

abbrev pub fresh : Frame
fresh = record { stage = Fresh; phase = Start; kind = 0; have = 0; body = replicate 9 0; at = 0; fed = 0 }

unfoldable pub begun : Frame → ℕ → Frame
begun f k =
    let r = kind_of k in
    cond (may_stand f.phase r.role)
    (record { stage = stage_at 0 r.size; phase = after_role f.phase r.role; kind = k; have = 0; body = f.body; at = f.fed; fed = capped (f.fed + 1) })
    (record { stage = Bad; phase = f.phase; kind = k; have = 0; body = f.body; at = f.fed; fed = capped (f.fed + 1) })

unfoldable pub may_grow : Frame → ℕ → Bool
may_grow f b = ltb f.have 9 && byte_fits f.kind (get_or f.body 0 0) f.have b

abbrev pub spoilt : Frame → Frame
spoilt f = record { stage = Bad; phase = f.phase; kind = f.kind; have = f.have; body = f.body; at = f.at; fed = f.fed }

abbrev pub grew : Frame → ℕ → Frame
grew f b =
    record {
      stage = stage_at (f.have + 1) (kind_of f.kind).size;
      phase = f.phase;
      kind = f.kind;
      have = f.have + 1;
      body = set f.body f.have b;
      at = f.at;
      fed = capped (f.fed + 1);
    }

unfoldable pub grown : Frame → ℕ → Frame
grown f b = cond (may_grow f b) (grew f b) (spoilt f)

abbrev pub pushed_at : Stage → Frame → ℕ → Frame
pushed_at Fresh f b = begun f b
pushed_at Part f b = grown f b
pushed_at Whole f b = begun f b
pushed_at Bad f b = f

unfoldable pub pushed : Frame → ℕ → Frame
pushed f b = pushed_at f.stage f b

abbrev pub entry_of : Frame → Entry
entry_of f = entry f.kind (take (kind_of f.kind).size f.body)

pub record Read : Type 0 where
  pub entries : List Entry
  pub frame : Frame

abbrev pub ended : Stage → Frame → List Entry
ended Fresh f = []
ended Part f = []
ended Whole f = entry_of f ∷ []
ended Bad f = []

abbrev pub before : List Entry → Read → Read
before rs r = record { entries = rs ++ r.entries; frame = r.frame }

unfoldable pub following : Frame → List ℕ → Read
following f [] = record { entries = []; frame = f }
following f (b ∷ bs) = before (ended (pushed f b).stage (pushed f b)) (following (pushed f b) bs)

abbrev pub ending_at : Stage → ℕ → Ending
ending_at Fresh at = malformed at
ending_at Part at = malformed at
ending_at Whole at = clean
ending_at Bad at = malformed at

abbrev pub ending_of : Frame → Ending
ending_of f = ending_at f.stage f.at

abbrev pub capped_ending : Ending → Ending
capped_ending clean = clean
capped_ending (malformed at) = malformed (capped at)
