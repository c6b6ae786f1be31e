-- SAMPLES THROUGH THE LIBRARY. Floats that `demfizagu_samples` or `demfizagu_samples_marked` converted, and a receiver then heard, are the run of 01
-- over those floats: the symbols taken are those that the samples make (specs/Floats), each float read as samples/specs says.
--   Converted              what a conversion did: so many samples, none of them refused, as coordinates; all of them where it is a 0
--   samples-converted, marked-converted   each call does so
--   samples-are, marked-are     the symbols of these coordinates, with the marks that specs/Floats makes, are those of the samples
--   samples-fit, marked-fit     a conversion that is a 0 of an even number of samples gives a piece that fits
--   samples-run, marked-run     a run goes on by such a piece
use mathlib.Core.Path.{◌≡◌, refl, sym, ap, subst, ◌∙◌}
use mathlib.Core.Bool.{Bool, true, false, cond, ◌&&◌}
use mathlib.Core.List.{List, [], ◌∷◌, ◌++◌, append_assoc, append-nil}
use Prim.Native.Nat.{ℕ, zero, suc, ◌+◌, ◌*◌, ◌/◌, ◌%◌, ◌≤◌}
use native.Mathlib.Omega.{arith}
use borrow.Author.Tests.{le-ltb, eqb-true, eq-eqb, leb-true, le-leb}
use lib.Dec.{eqb, leb}
use lib.Ieee.{Float}
use lib.IntN.{ℤ}
use lib.ListN.{length, get_or, take, drop}
use lib.Seq.{length-take-le, take_at, take_all}
use Rattle.lists.specs.UpTo.{all_up_to}
use Rattle.points.specs.declared.Accord.{Accord}
use Rattle.trellis.specs.Lists.{Every}
use Rattle.trellis.specs.Measure.{Two}
use Rattle.nearest.specs.declared.Received.{Received}
use Rattle.samples.specs.declared.Sampled.{Sampled}
use Rattle.samples.specs.Sampled.{heard_sampled}
use Rattle.receiver_meaning.specs.Piece.{marked_symbol, symbols_with, symbols_of, piece_of, marked_piece}
use Rattle.openings.specs.declared.Start.{Start}
use Rattle.c_samples.specs.Counts.{told_of}
use Rattle.c_samples.specs.Calls.{place_or0, Conversion, converting, sampled_by, samples_with, SamplesCall, list_call, samples_call, marks_fit, marked_call}
use Rattle.c_samples.specs.Promise.{Converts}
use Rattle.demfizagu.specs.Calls.{hear_call}
use Rattle.demfizagu.specs.Promise as library
use Rattle.promises.specs.Library.{taken, written, LibraryHears}
use Rattle.promises.specs.Library as plain
use Rattle.promises.specs.Floats.{NotRefused, point_heard, symbols_heard, symbol_marks}

-- the coordinates of some samples
abbrev coordinates : List Sampled → List ℤ
coordinates [] = []
coordinates (s ∷ l) = (heard_sampled s).given.x ∷ (heard_sampled s).given.y ∷ coordinates l

coordinates-long : (l : List Sampled) → length (coordinates l) ≡ 2 * length l
coordinates-long [] = refl
coordinates-long (s ∷ l) = omega (arith, coordinates-long l)

-- ---- what a conversion writes

record Goes (ss : List Sampled) (zs : List ℤ) (c : Conversion) : Type 0 where
  many : ℕ
  fits : many ≤ length ss
  writes : c.written ≡ zs ++ coordinates (take many ss)
  good : Every NotRefused (take many ss)
  all : c.number ≡ 0 → many ≡ length ss

goes : (ss : List Sampled) (zs : List ℤ) (room : ℕ) → Goes ss zs (converting ss zs room)
unfolding converting
goes [] zs room = record { many = 0; fits = omega arith; writes = sym (append-nil zs); good = tt; all = λ _. refl }
goes (s ∷ ss) zs room =
    let g = (heard_sampled s).given in
    go (eqb g.number 0) (leb (length zs + 2) room) refl (goes ss (zs ++ (g.x ∷ g.y ∷ [])) room)
  where
    go : (a b : Bool) → eqb (heard_sampled s).given.number 0 ≡ a →
        Goes ss (zs ++ ((heard_sampled s).given.x ∷ (heard_sampled s).given.y ∷ [])) (converting ss (zs ++ ((heard_sampled s).given.x ∷ (heard_sampled s).given.y ∷ [])) room) →
        Goes (s ∷ ss) zs
        (cond a (cond b (converting ss (zs ++ ((heard_sampled s).given.x ∷ (heard_sampled s).given.y ∷ [])) room) (record { number = 8; written = zs; place = 0 }))
        (record { number = 5; written = zs; place = length zs + place_or0 (heard_sampled s).given.place }))
    go true true e r =
        record {
          many = suc r.many;
          fits = omega (arith, r.fits);
          writes = r.writes ∙ append_assoc zs ((heard_sampled s).given.x ∷ (heard_sampled s).given.y ∷ []) (coordinates (take r.many ss));
          good = (eqb-true (heard_sampled s).given.number 0 e, r.good);
          all = λ z. ap suc (r.all z);
        }
    go true false e r = record { many = 0; fits = omega arith; writes = sym (append-nil zs); good = tt; all = λ z. absurd (omega arith) }
    go false b e r = record { many = 0; fits = omega arith; writes = sym (append-nil zs); good = tt; all = λ z. absurd (omega arith) }

pub record Converted (samples : List Sampled) (n : ℕ) (o : List ℤ) (told : List ℕ) : Type 0 where
  pub many : ℕ
  pub within : many ≤ length samples
  pub written_is : written told ≡ 2 * many
  pub are : take (written told) o ≡ coordinates (take many samples)
  pub good : Every NotRefused (take many samples)
  pub all : n ≡ 0 → many ≡ length samples

list-converted : (fits : Bool) (samples : List Sampled) (out : List ℤ) (told : List ℕ) → 3 ≤ length told → (n : ℕ) (o : List ℤ) (told' : List ℕ) →
    Converts (list_call fits samples out told) n o told' → Converted samples n o told'
unfolding list_call told_of
list-converted fits samples out told long n o told' a = go fits (rw (le-ltb (length told) 3 long) at a)
  where
    c : Conversion
    c = converting samples [] (length out)

    done : SamplesCall
    done = record { number = c.number; out = c.written ++ drop (length c.written) out; told = told_of (length c.written) (length c.written) c.place told }

    uneven : SamplesCall
    uneven = record { number = 10; out = out; told = told_of 0 0 0 told }

    go : (b : Bool) → Converts (cond b done uneven) n o told' → Converted samples n o told'
    go true k =
        let g = goes samples [] (length out) in
        let w : written told' ≡ length c.written = ap (λ (l : List ℕ). get_or l 1 0) k.told_is in
        record {
          many = g.many;
          within = g.fits;
          written_is = w ∙ ap length g.writes ∙ coordinates-long (take g.many samples) ∙ ap (λ (i : ℕ). 2 * i) (length-take-le g.many samples g.fits);
          are = ap (take (written told')) k.out-is ∙ take_at c.written (drop (length c.written) out) (written told') (sym w) ∙ g.writes;
          good = g.good;
          all = λ z. g.all (sym k.number ∙ z);
        }
    go false k =
        let w : written told' ≡ 0 = ap (λ (l : List ℕ). get_or l 1 0) k.told_is in
        record {
          many = 0;
          within = omega arith;
          written_is = w;
          are = ap (λ (i : ℕ). take i o) w;
          good = tt;
          all = λ z. absurd (let e : ◌≡◌ {A = ℕ} 10 0 = sym k.number ∙ z in omega arith);
        }

module _ (floats : List Float) (out : List ℤ) (told : List ℕ) (long : 3 ≤ length told) (n : ℕ) (o : List ℤ) (told' : List ℕ) where
  pub samples-converted : Converts (samples_call floats out told) n o told' → Converted (samples_with [] floats) n o told'
  unfolding samples_call
  samples-converted a = list-converted (eqb (length floats % 2) 0) (samples_with [] floats) out told long n o told' a

  pub marked-converted : (missing : List ℕ) → Converts (marked_call floats missing out told) n o told' → Converted (samples_with missing floats) n o told'
  unfolding marked_call
  marked-converted missing a = list-converted (marks_fit missing (length floats)) (samples_with missing floats) out told long n o told' a

-- ---- the symbols of the coordinates

pub samples-are : (n : ℕ) (fs : List Float) → let l = take n (samples_with [] fs) in symbols_of (coordinates l) ≡ symbols_heard l
unfolding samples_with
samples-are zero fs = refl
samples-are (suc zero) [] = refl
samples-are (suc zero) (x ∷ []) = refl
samples-are (suc zero) (x ∷ y ∷ fs) = refl
samples-are (suc (suc n)) [] = refl
samples-are (suc (suc n)) (x ∷ []) = refl
samples-are (suc (suc n)) (x ∷ y ∷ []) = refl
samples-are (suc (suc n)) (x ∷ y ∷ z ∷ []) = refl
samples-are (suc (suc n)) (x ∷ y ∷ z ∷ w ∷ fs) =
    ap (λ (l : List (Two Received)). record { first = point_heard (sampled_by 0 x y); second = point_heard (sampled_by 0 z w) } ∷ l) (samples-are n fs)

-- the mark of a symbol is made of its samples' marks
one-marked : (a b : ℕ) → a ≤ 1 → b ≤ 1 → (x y z w : Float) → let s = sampled_by a x y in let t = sampled_by b z w in
    marked_symbol (a + 2 * b) (heard_sampled s).given.x (heard_sampled s).given.y (heard_sampled t).given.x (heard_sampled t).given.y
    ≡ record { first = point_heard s; second = point_heard t }
one-marked zero zero h k x y z w = refl
one-marked zero (suc zero) h k x y z w = refl
one-marked (suc zero) zero h k x y z w = refl
one-marked (suc zero) (suc zero) h k x y z w = refl
one-marked zero (suc (suc b)) h k x y z w = absurd (omega arith)
one-marked (suc zero) (suc (suc b)) h k x y z w = absurd (omega arith)
one-marked (suc (suc a)) b h k x y z w = absurd (omega arith)

and_left : (a b : Bool) → (a && b) ≡ true → a ≡ true
and_left true b e = refl
and_left false b e = e

and_right : (a b : Bool) → (a && b) ≡ true → b ≡ true
and_right true b e = e
and_right false b e = absurd (let z : ◌≡◌ {A = ℕ} 0 1 = cc in omega arith)

pub marked-are : (n : ℕ) (ms : List ℕ) (fs : List Float) → all_up_to 1 ms ≡ true → length fs ≡ 2 * length ms →
    let l = take n (samples_with ms fs) in symbols_with (symbol_marks ms) (coordinates l) ≡ symbols_heard l
unfolding samples_with all_up_to
marked-are zero ms fs h e = refl
marked-are (suc zero) ms [] h e = refl
marked-are (suc zero) ms (x ∷ []) h e = refl
marked-are (suc zero) ms (x ∷ y ∷ fs) h e = refl
marked-are (suc (suc n)) ms [] h e = refl
marked-are (suc (suc n)) ms (x ∷ []) h e = refl
marked-are (suc (suc n)) ms (x ∷ y ∷ []) h e = refl
marked-are (suc (suc n)) ms (x ∷ y ∷ z ∷ []) h e = refl
marked-are (suc (suc n)) [] (x ∷ y ∷ z ∷ w ∷ fs) h e = absurd (omega arith)
marked-are (suc (suc n)) (a ∷ []) (x ∷ y ∷ z ∷ w ∷ fs) h e = absurd (omega arith)
marked-are (suc (suc n)) (a ∷ b ∷ ms) (x ∷ y ∷ z ∷ w ∷ fs) h e =
    let r = and_right (leb a 1) (leb b 1 && all_up_to 1 ms) h in
    (λ i. one-marked a b (leb-true a 1 (and_left (leb a 1) (leb b 1 && all_up_to 1 ms) h)) (leb-true b 1 (and_left (leb b 1) (all_up_to 1 ms) r)) x y z w i
    ∷ marked-are n ms fs (and_right (leb b 1) (all_up_to 1 ms) r) (omega arith) i)

-- ---- a piece that fits

samples-long : (j : ℕ) (ms : List ℕ) (fs : List Float) → length fs ≡ 2 * j → length (samples_with ms fs) ≡ j
unfolding samples_with
samples-long j ms [] e = omega arith
samples-long j ms (x ∷ []) e = absurd (omega arith)
samples-long zero ms (x ∷ y ∷ fs) e = absurd (omega arith)
samples-long (suc j) ms (x ∷ y ∷ fs) e = ap suc (samples-long j (drop 1 ms) fs (omega arith))

marks-fit : (j : ℕ) (ms : List ℕ) → length ms ≡ 2 * j → all_up_to 1 ms ≡ true → (length (symbol_marks ms) ≡ j) × (all_up_to 3 (symbol_marks ms) ≡ true)
unfolding all_up_to
marks-fit j [] e h = (omega arith, refl)
marks-fit j (a ∷ []) e h = absurd (omega arith)
marks-fit zero (a ∷ b ∷ ms) e h = absurd (omega arith)
marks-fit (suc j) (a ∷ b ∷ ms) e h =
    let r = and_right (leb a 1) (leb b 1 && all_up_to 1 ms) h in
    let k = marks-fit j ms (omega arith) (and_right (leb b 1) (all_up_to 1 ms) r) in
    let p : a ≤ 1 = leb-true a 1 (and_left (leb a 1) (leb b 1 && all_up_to 1 ms) h) in
    let q : b ≤ 1 = leb-true b 1 (and_left (leb b 1) (all_up_to 1 ms) r) in
    (ap suc k.0, rw (le-leb (a + 2 * b) 3 (omega arith), k.1))

-- a list that does not fit is a 10
was-fit : (fits : Bool) (samples : List Sampled) (out : List ℤ) (told : List ℕ) → 3 ≤ length told → (o : List ℤ) (told' : List ℕ) → Converts (list_call fits samples out told) 0 o told' → fits ≡ true
unfolding list_call
was-fit true samples out told long o told' a = refl
was-fit false samples out told long o told' a =
    absurd (let e : ◌≡◌ {A = ℕ} 0 10 = a.number ∙ rw (le-ltb (length told) 3 long) in omega arith)

taken-long : {samples : List Sampled} {o : List ℤ} {told : List ℕ} (c : Converted samples 0 o told) → (take (written told) o ≡ coordinates samples) × (length (take (written told) o) ≡ 2 * length samples)
taken-long {samples = samples} c =
    let e = c.are ∙ ap (λ (i : ℕ). coordinates (take i samples)) (c.all refl) ∙ ap coordinates (take_all (length samples) samples (omega arith)) in
    (e, ap length e ∙ coordinates-long samples)

module _ (floats : List Float) (out : List ℤ) (told : List ℕ) (long : 3 ≤ length told) (o : List ℤ) (told' : List ℕ) where
  pub samples-fit : Converts (samples_call floats out told) 0 o told' → length floats % 4 ≡ 0 → (piece_of (take (written told') o)).fits ≡ true
  samples-fit a e =
      let l = (taken-long (samples-converted floats out told long 0 o told' a)).1 in
      let m = samples-long (2 * (length floats / 4)) [] floats (omega arith) in
      eq-eqb (length (take (written told') o) % 4) 0 (omega arith)

  pub marked-fit : (missing : List ℕ) → Converts (marked_call floats missing out told) 0 o told' → length missing % 2 ≡ 0 →
      (marked_piece (symbol_marks missing) (take (written told') o)).fits ≡ true
  unfolding marked_call
  marked-fit missing a e =
      let f = was-fit (marks_fit missing (length floats)) (samples_with missing floats) out told long o told' a in
      let n = eqb-true (length floats) (2 * length missing) (and_left (eqb (length floats) (2 * length missing)) (all_up_to 1 missing) f) in
      let k = marks-fit (length missing / 2) missing (omega arith) (and_right (eqb (length floats) (2 * length missing)) (all_up_to 1 missing) f) in
      let l = (taken-long (list-converted (marks_fit missing (length floats)) (samples_with missing floats) out told long 0 o told' a)).1 in
      let m = samples-long (length missing) missing floats n in
      rw (eq-eqb (length (take (written told') o)) (4 * length (symbol_marks missing)) (omega (arith, k.0)), k.1)

-- ---- runs

module _ (k : Accord) (w : ℕ) (b : Start) (took : List (Two Received)) (ws state : List ℕ) (run : LibraryHears k w b took ws state)
    (floats : List Float) (room : List ℤ) (counts : List ℕ) (long : 3 ≤ length counts) (o : List ℤ) (counts' : List ℕ)
    (out told : List ℕ) (enough : 3 ≤ length told) (n : ℕ) (state' o' told' : List ℕ) where
  -- the samples were all converted, and their coordinates were heard
  pub samples-run : Converts (samples_call floats room counts) 0 o counts' → library.Answers (hear_call state (piece_of (take (written counts') o)) out told) n state' o' told' →
      LibraryHears k w b (took ++ take (taken told') (symbols_heard (samples_with [] floats))) (ws ++ take (written told') o') state'
  samples-run a h =
      let s = samples_with [] floats in
      let e : symbols_of (take (written counts') o) ≡ symbols_heard s =
      ap symbols_of (taken-long (samples-converted floats room counts long 0 o counts' a)).0
      ∙ subst (λ (x : List Sampled). symbols_of (coordinates x) ≡ symbols_heard x) (take_all (length s) s (omega arith)) (samples-are (length s) floats) in
      subst (λ (l : List (Two Received)). LibraryHears k w b (took ++ take (taken told') l) (ws ++ take (written told') o') state') e
      (plain.hears run (piece_of (take (written counts') o)) out told enough n state' o' told' h)

  -- the same, where some are missing, with the marks of the symbols
  pub marked-run : (missing : List ℕ) → Converts (marked_call floats missing room counts) 0 o counts' →
      library.Answers (hear_call state (marked_piece (symbol_marks missing) (take (written counts') o)) out told) n state' o' told' →
      LibraryHears k w b (took ++ take (taken told') (symbols_heard (samples_with missing floats))) (ws ++ take (written told') o') state'
  unfolding marked_call
  marked-run missing a h =
      let f = was-fit (marks_fit missing (length floats)) (samples_with missing floats) room counts long o counts' a in
      let n₁ = eqb-true (length floats) (2 * length missing) (and_left (eqb (length floats) (2 * length missing)) (all_up_to 1 missing) f) in
      let up = and_right (eqb (length floats) (2 * length missing)) (all_up_to 1 missing) f in
      let s = samples_with missing floats in
      let e : symbols_with (symbol_marks missing) (take (written counts') o) ≡ symbols_heard s =
      ap (symbols_with (symbol_marks missing)) (taken-long (list-converted (marks_fit missing (length floats)) s room counts long 0 o counts' a)).0
      ∙ subst (λ (x : List Sampled). symbols_with (symbol_marks missing) (coordinates x) ≡ symbols_heard x) (take_all (length s) s (omega arith)) (marked-are (length s) missing floats up n₁) in
      subst (λ (l : List (Two Received)). LibraryHears k w b (took ++ take (taken told') l) (ws ++ take (written told') o') state') e
      (plain.hears run (marked_piece (symbol_marks missing) (take (written counts') o)) out told enough n state' o' told' h)
