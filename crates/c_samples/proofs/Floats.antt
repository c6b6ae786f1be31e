-- The laws of samples: where a list of them stands after some.
--   Going           the first i coordinates are written, and the rest is still to do
--   start, go_on    how it begins, and one sample more
--   stop-fault, stop-room, end      the three ways it ends
use mathlib.Core.Path.{◌≡◌, refl, sym, ap, ◌∙◌}
use mathlib.Core.List.{List, [], ◌∷◌, ◌++◌}
use Prim.Native.Nat.{ℕ, suc, ◌+◌, ◌/◌, ◌%◌, ◌≤◌, ◌<◌}
use native.Mathlib.Numerals.{add-one}
use native.Mathlib.Omega.{arith}
use borrow.Author.Tests.{le-leb, lt-leb}
use lib.Ieee.{Float, nan}
use lib.IntN.{ℤ}
use lib.ListN.{get_or, length, set, take, drop, length-drop, length-append, take-append-drop}
use lib.Seq.{drop-cons, drop-drop, get_or-drop, length-take-le, take_at, drop_at, sets-eq}
use Rattle.samples.specs.declared.Sampled.{Sampled}
use Rattle.samples.specs.Given.{both_done, refused_at}
use Rattle.samples.specs.Sampled.{heard_sampled}
use Rattle.c_samples.specs.Calls.{samples_with, sample_in, Conversion, converting}
use Rattle.c_samples.specs.Promise.{ConvertsTo}

-- fewer than two floats are no sample
too_few : (ms : List ℕ) (fs : List Float) → length fs < 2 → samples_with ms fs ≡ []
unfolding samples_with
too_few ms [] h = refl
too_few ms (x ∷ []) h = refl
too_few ms (x ∷ y ∷ fs) h = absurd (omega arith)

pub record Going (fs : List Float) (ms : List ℕ) (out₀ out : List ℤ) (i : ℕ) : Type 0 where
  pub aligned : i % 2 ≡ 0
  pub within : i ≤ length fs
  pub room : i ≤ length out₀
  pub long : length out ≡ length out₀
  pub rest : drop i out ≡ drop i out₀
  pub same : converting (samples_with ms fs) [] (length out₀) ≡ converting (samples_with (drop (i / 2) ms) (drop i fs)) (take i out) (length out₀)

pub start : (fs : List Float) (ms : List ℕ) (out : List ℤ) → Going fs ms out out 0
start fs ms out = record { aligned = omega arith; within = omega arith; room = omega arith; long = refl; rest = refl; same = refl }

module _ (fs : List Float) (ms : List ℕ) (out₀ out : List ℤ) (i : ℕ) (is : Going fs ms out₀ out i) where
  abbrev all : Conversion
  all = converting (samples_with ms fs) [] (length out₀)

  -- what is written is the first i places
  written : length (take i out) ≡ i
  written = length-take-le i out (let a = is.room in let b = is.long in omega arith)

  whole : out ≡ take i out ++ drop (length (take i out)) out₀
  whole = rw (written, sym is.rest) (sym (take-append-drop i out))

  stops : (n p : ℕ) → all ≡ record { number = n; written = take i out; place = p } → ConvertsTo all out₀ n i p out
  stops n p e = rw e (record { number = refl; written = sym written; place = refl; out-is = whole })

  pub end : length fs ≤ i + 1 → ConvertsTo all out₀ 0 i 0 out
  unfolding converting
  end h = stops 0 0 (is.same ∙ rw (too_few (drop (i / 2) ms) (drop i fs) (simp length-drop (omega arith))))

  module _ (s : Sampled) (more : i + 1 < length fs) (here : s ≡ sample_in ms fs i) where
    split : drop i fs ≡ get_or fs i nan ∷ get_or fs (i + 1) nan ∷ drop (i + 2) fs
    split =
        let a : i + 2 ≡ suc (suc i) = omega arith in
        drop-cons fs i nan (omega arith) ∙ ap (λ l. get_or fs i nan ∷ l) (drop-cons fs (suc i) nan (omega arith)) ∙ rw (a, add-one i)

    samples : samples_with (drop (i / 2) ms) (drop i fs) ≡ s ∷ samples_with (drop ((i + 2) / 2) ms) (drop (i + 2) fs)
    unfolding samples_with
    samples =
        let e : i / 2 + 0 ≡ i / 2 = omega arith in
        let n : i / 2 + 1 ≡ (i + 2) / 2 = omega arith in
        rw (split, get_or-drop (i / 2) ms 0 0, e, here, drop-drop 1 (i / 2) ms, n)

    abbrev at : Conversion
    at = converting (s ∷ samples_with (drop ((i + 2) / 2) ms) (drop (i + 2) fs)) (take i out) (length out₀)

    same_at : all ≡ at
    same_at = is.same ∙ ap (λ l. converting l (take i out) (length out₀)) samples

    pub stop-fault : (p : ℕ) → refused_at p ≡ (heard_sampled s).given → ConvertsTo all out₀ 5 i (i + p) out
    unfolding converting
    stop-fault p e = stops 5 (i + p) (same_at ∙ rw (sym e, written))

    module _ (x y : ℤ) (hears : both_done x y ≡ (heard_sampled s).given) where
      pub stop-room : length out < i + 2 → ConvertsTo all out₀ 8 i 0 out
      unfolding converting
      stop-room k = let n = is.long in stops 8 0 (same_at ∙ rw (sym hears, written, lt-leb (i + 2) (length out₀) (omega arith)))

      pub go_on : (o : List ℤ) → o ≡ set (set out i x) (i + 1) y → i + 2 ≤ length out → Going fs ms out₀ o (i + 2)
      unfolding converting
      go_on o e k =
          let n = is.long in
          let front : o ≡ (take i out ++ (x ∷ y ∷ [])) ++ drop (i + 2) out = e ∙ rw (add-one i) (sets-eq (x ∷ y ∷ []) out i k) in
          let size : length (take i out ++ (x ∷ y ∷ [])) ≡ i + 2 = length-append (take i out) (x ∷ y ∷ []) ∙ rw written in
          let now-written = ap (λ l. take (i + 2) l) front ∙ take_at (take i out ++ (x ∷ y ∷ [])) (drop (i + 2) out) (i + 2) size in
          let after : drop (i + 2) out ≡ drop (i + 2) out₀ = sym (drop-drop 2 i out) ∙ ap (λ l. drop 2 l) is.rest ∙ drop-drop 2 i out₀ in
          record {
            aligned = let a = is.aligned in omega arith;
            within = omega arith;
            room = omega arith;
            long = ap length front ∙ length-append (take i out ++ (x ∷ y ∷ [])) (drop (i + 2) out) ∙ rw (size, length-drop) (omega arith);
            rest = ap (λ l. drop (i + 2) l) front ∙ drop_at (take i out ++ (x ∷ y ∷ [])) (drop (i + 2) out) (i + 2) size ∙ after;
            same =
                same_at
                ∙ rw (sym hears, written, le-leb (i + 2) (length out₀) (omega arith))
                (ap (λ l. converting (samples_with (drop ((i + 2) / 2) ms) (drop (i + 2) fs)) l (length out₀)) (sym now-written));
          }
