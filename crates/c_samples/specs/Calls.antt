-- What the conversion of floats does, as a function of all that it is lent: the number it gives, and the lent memory after it. What is
-- heard of a sample is `heard_sample`, and of one that may be missing `heard_sampled`.
--   place_or0                   the place at fault, 0 where there is none
--   Sampling, sample_call       one sample
--   Conversion, converting     sample by sample up to the first that is refused or has no room
--   samples_with ms fs          the samples of a list of floats, with the marks ms; sample_in ms fs i, one of them
--   SamplesCall, list_call      a list of samples, and what is told of it: samples_call without marks, marked_call with a mark for each
use Rattle.std.specs.Prelude.{ℕ, ◌+◌, ◌*◌, ◌/◌, ◌%◌, Bool, cond, ◌&&◌, List, [], ◌∷◌, ◌++◌, eqb, leb, ltb, Float, ℤ, pos, get_or, length, drop}
use Rattle.std.proofs.Math.Option.{Option, none, some}
use Rattle.std.specs.Float.{nan}
use Rattle.lists.specs.UpTo.{all_up_to}
use Rattle.samples.specs.declared.Sampled.{Sampled}
use Rattle.samples.specs.declared.Sampled.TheVariants.{Heard, Missing}
use Rattle.samples.specs.Heard.{heard_sample}
use Rattle.samples.specs.Sampled.{heard_sampled}
use Rattle.c_samples.specs.Counts.{told_of}

abbrev pub place_or0 : Option ℕ → ℕ
place_or0 none = 0
place_or0 (some p) = p

pub record Sampling : Type 0 where
  pub number : ℕ
  pub out : List ℤ

unfoldable pub sample_call : Float → Float → List ℤ → Sampling
sample_call x y out =
    let g = heard_sample x y in
    cond (ltb (length out) 3)
    (record { number = 8; out = out })
    (record { number = g.number; out = g.x ∷ g.y ∷ pos (place_or0 g.place) ∷ drop 3 out })

pub record Conversion : Type 0 where
  pub number : ℕ
  pub written : List ℤ
  pub place : ℕ

-- "then sample by sample 5, 8 (no room for its two numbers)"; a missing sample writes 0, 0; zs are the coordinates written so far
unfoldable pub converting : List Sampled → List ℤ → ℕ → Conversion
converting (s ∷ ss) zs room =
    let g = (heard_sampled s).given in
    cond (eqb g.number 0)
    (cond (leb (length zs + 2) room)
    (converting ss (zs ++ (g.x ∷ g.y ∷ [])) room)
    (record { number = 8; written = zs; place = 0 }))
    (record { number = 5; written = zs; place = length zs + place_or0 g.place })
converting [] zs room = record { number = 0; written = zs; place = 0 }

-- "A sample is either heard, with its two floats, or missing" (02, Wish 4)
abbrev pub sampled_by : ℕ → Float → Float → Sampled
sampled_by m x y = cond (eqb m 1) Missing (Heard x y)

-- two floats to a sample, and a mark: 1 is missing, and a mark that is not there is 0
unfoldable pub samples_with : List ℕ → List Float → List Sampled
samples_with ms (x ∷ y ∷ fs) = sampled_by (get_or ms 0 0) x y ∷ samples_with (drop 1 ms) fs
samples_with ms (x ∷ []) = []
samples_with ms [] = []

-- the one that begins at the place i
abbrev pub sample_in : List ℕ → List Float → ℕ → Sampled
sample_in ms fs i = sampled_by (get_or ms (i / 2) 0) (get_or fs i nan) (get_or fs (i + 1) nan)

pub record SamplesCall : Type 0 where
  pub number : ℕ
  pub out : List ℤ
  pub told : List ℕ

-- 8 where `told` is too short, 10 where the lists do not fit
unfoldable pub list_call : Bool → List Sampled → List ℤ → List ℕ → SamplesCall
list_call fits samples out told =
    let c = converting samples [] (length out) in
    cond (ltb (length told) 3)
    (record { number = 8; out = out; told = told })
    (cond fits
    (record {
      number = c.number;
      out = c.written ++ drop (length c.written) out;
      told = told_of (length c.written) (length c.written) c.place told;
    })
    (record { number = 10; out = out; told = told_of 0 0 0 told }))

unfoldable pub samples_call : List Float → List ℤ → List ℕ → SamplesCall
samples_call floats = list_call (eqb (length floats % 2) 0) (samples_with [] floats)

-- one mark for each sample, and each is 0 or 1
abbrev pub marks_fit : List ℕ → ℕ → Bool
marks_fit missing n = eqb n (2 * length missing) && all_up_to 1 missing

unfoldable pub marked_call : List Float → List ℕ → List ℤ → List ℕ → SamplesCall
marked_call floats missing = list_call (marks_fit missing (length floats)) (samples_with missing floats)
