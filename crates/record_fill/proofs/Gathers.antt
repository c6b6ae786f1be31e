-- Bytes of a body at once are the bytes one by one.
--   inside-yes, wants   what the test of a frame says
--   advance-one         a byte that is pushed alone
--   advance-body        the rest of a body
--   run-some, run-most  a run has at least one byte, and no more than there are
--   run_none            no record is whole before its last byte
--   advances-settled    any two results are equal
use mathlib.Core.Path.{◌≡◌, refl, sym, ap, ◌∙◌}
use mathlib.Core.Bool.{Bool, true, false, cond}
use mathlib.Core.List.{List, [], ◌∷◌, append-nil}
use Prim.Native.Nat.{ℕ, zero, suc, ◌+◌, ◌-◌, ◌≤◌, ◌<◌, min}
use native.Mathlib.Omega.{arith}
use native.Mathlib.Numerals.{add-one}
use borrow.Author.Tests.{lt-ltb, ltb-true}
use lib.Dec.{eqb}
use lib.ListN.{length, take, drop, get_or, length-take, length-drop}
use lib.Seq.{drop-cons}
use Rattle.records.specs.declared.Kind.{Kind}
use Rattle.records.specs.declared.Stage.{Stage}
use Rattle.records.specs.declared.Stage.TheVariants.{Fresh, Part, Whole, Bad}
use Rattle.records.specs.declared.Frame.{Frame}
use Rattle.records.specs.Kinds.{kind_of}
use Rattle.records.specs.Values.{byte_fits}
use Rattle.records.specs.Frames.{capped, may_grow, grown, pushed, Read, ended, before, following}
use Rattle.records.proofs.Counts.{capped-more}
use Rattle.records.proofs.Steps.{size_fits}
use Rattle.record_fill.specs.Runs.{inside_at, inside, gathered, run_of, Advances}

not-true : false ≡ true → ⊥
not-true e = let z : ◌≡◌ {A = ℕ} 0 1 = cc in omega arith

-- ---- the test

inside-stage : (t : Stage) (have size : ℕ) → inside_at t have size ≡ true → (t ≡ Part) × (have < size)
inside-stage Fresh have size e = absurd (not-true e)
inside-stage Part have size e = (refl, ltb-true have size e)
inside-stage Whole have size e = absurd (not-true e)
inside-stage Bad have size e = absurd (not-true e)

pub inside-yes : (f : Frame) → inside f ≡ true → (f.stage ≡ Part) × (f.have < (kind_of f.kind).size) × (eqb f.kind 5 ≡ false)
inside-yes f = go (eqb f.kind 5)
  where
    go : (b : Bool) → cond b false (inside_at f.stage f.have (kind_of f.kind).size) ≡ true → (f.stage ≡ Part) × (f.have < (kind_of f.kind).size) × (b ≡ false)
    go true e = absurd (not-true e)
    go false e = let i = inside-stage f.stage f.have (kind_of f.kind).size e in (i.0, i.1, refl)

-- how much is wanted then, and that the frame can hold it
pub wants : (f : Frame) (k : Kind) → inside f ≡ true → k ≡ kind_of f.kind → (f.have < k.size) × (k.size ≤ 9)
wants f k e i = (rw i (inside-yes f e).1, rw i (size_fits f.kind))

-- ---- one byte

pub advance-one : (f : Frame) (bs : List ℕ) (from : ℕ) (g : Frame) → from < length bs → inside f ≡ false → g ≡ pushed f (get_or bs from 0) → Advances f (drop from bs) g 1
unfolding run_of following
advance-one f bs from g h e z =
    record {
      count = rw e;
      pushes = rw (drop-cons bs from 0 h, ← z, append-nil (ended g.stage g));
    }

-- ---- a body

module _ (f : Frame) (p : f.stage ≡ Part) (q : eqb f.kind 5 ≡ false) (h : f.have < (kind_of f.kind).size) where
  grows : (b : ℕ) → pushed f b ≡ gathered f 1 (b ∷ [])
  unfolding pushed grown may_grow byte_fits
  grows b = rw (p, lt-ltb f.have 9 (omega (arith, size_fits f.kind)), q)

followed : (f g : Frame) (b : ℕ) (bs : List ℕ) → pushed f b ≡ g → following f (b ∷ bs) ≡ before (ended g.stage g) (following g bs)
unfolding following
followed f g b bs e = ap (λ (x : Frame). before (ended x.stage x) (following x bs)) e

regathered : (f : Frame) (b : ℕ) (n : ℕ) (xs : List ℕ) → gathered (gathered f 1 (b ∷ [])) n xs ≡ gathered f (suc n) (b ∷ xs)
regathered f b n xs =
    let e : f.have + 1 + n ≡ f.have + suc n = omega arith in
    let a : f.have + 1 ≡ suc f.have = add-one f.have in
    let c : capped (capped (f.fed + 1) + n) ≡ capped (f.fed + suc n) = capped-more (f.fed + 1) n ∙ ap capped (omega arith) in
    rw (e, c, a)

-- the last frame alone may hold a whole record
abbrev only : Frame → Read
only g = record { entries = ended g.stage g; frame = g }

gathers : (xs : List ℕ) (x : ℕ) (f : Frame) → f.stage ≡ Part → eqb f.kind 5 ≡ false → f.have + suc (length xs) ≤ (kind_of f.kind).size
    → following f (x ∷ xs) ≡ only (gathered f (suc (length xs)) (x ∷ xs))
unfolding following
gathers [] x f p q h =
    let g = gathered f 1 (x ∷ []) in
    followed f g x [] (grows f p q (omega arith) x) ∙ rw (append-nil (ended g.stage g))
gathers (y ∷ ys) x f p q h =
    let g = gathered f 1 (x ∷ []) in
    let s : g.stage ≡ Part = rw (lt-ltb (f.have + 1) (kind_of f.kind).size (omega arith)) in
    let i = gathers ys y g s q (omega arith) in
    followed f g x (y ∷ ys) (grows f p q (omega arith) x)
    ∙ ap (λ (t : Stage). before (ended t g) (following g (y ∷ ys))) s
    ∙ i
    ∙ ap (λ (z : Frame). only z) (regathered f x (suc (length ys)) (y ∷ ys))

gathers-all : (xs : List ℕ) (n : ℕ) (f : Frame) → length xs ≡ n → 0 < n → f.stage ≡ Part → eqb f.kind 5 ≡ false → f.have + n ≤ (kind_of f.kind).size
    → following f xs ≡ only (gathered f n xs)
gathers-all [] n f e h p q l = absurd (omega arith)
gathers-all (x ∷ xs) n f e h p q l =
    let m : n ≡ suc (length xs) = sym e in
    rw m (gathers xs x f p q (omega arith))

pub advance-body : (f : Frame) (bs : List ℕ) (from n : ℕ) (g : Frame) → from < length bs → inside f ≡ true
    → n ≡ min ((kind_of f.kind).size - f.have) (length bs - from) → g ≡ gathered f n (take n (drop from bs)) → Advances f (drop from bs) g n
unfolding run_of
advance-body f bs from n g h e m z =
    let i = inside-yes f e in
    let d = length-drop from bs in
    record {
      count = m ∙ rw (e, d);
      pushes = rw z (gathers-all (take n (drop from bs)) n f (omega (arith, length-take n (drop from bs), d)) (omega (arith, i.1)) i.0 i.2 (omega (arith, i.1)));
    }

-- ---- how many

module _ (f : Frame) (bs : List ℕ) (h : 0 < length bs) where
  pub run-some : 0 < run_of f bs
  unfolding run_of
  run-some = go (inside f) refl
    where
      go : (b : Bool) → inside f ≡ b → 0 < cond b (min ((kind_of f.kind).size - f.have) (length bs)) 1
      go true e = omega (arith, (inside-yes f e).1)
      go false e = omega arith

  pub run-most : run_of f bs ≤ length bs
  unfolding run_of
  run-most = go (inside f)
    where
      go : (b : Bool) → cond b (min ((kind_of f.kind).size - f.have) (length bs)) 1 ≤ length bs
      go true = omega arith
      go false = omega arith

-- fewer bytes of a body than are wanted
body-none : (xs : List ℕ) (n : ℕ) (f : Frame) → length xs ≡ n → f.stage ≡ Part → eqb f.kind 5 ≡ false → f.have + n < (kind_of f.kind).size
    → (following f xs).entries ≡ []
unfolding following
body-none [] n f e p q h = refl
body-none (x ∷ xs) n f e p q h =
    let g = gathered f n (x ∷ xs) in
    let s : g.stage ≡ Part = rw (lt-ltb (f.have + n) (kind_of f.kind).size h) in
    ap (λ (r : Read). r.entries) (gathers-all (x ∷ xs) n f e (omega arith) p q (omega arith)) ∙ ap (λ (t : Stage). ended t g) s

pub run_none : (f : Frame) (bs : List ℕ) (k : ℕ) → k < run_of f bs → (following f (take k bs)).entries ≡ []
unfolding run_of following
run_none f bs k = go (inside f) refl
  where
    one : (j : ℕ) → j < 1 → (following f (take j bs)).entries ≡ []
    one zero l = refl
    one (suc j) l = absurd (omega arith)

    go : (b : Bool) → inside f ≡ b → k < cond b (min ((kind_of f.kind).size - f.have) (length bs)) 1 → (following f (take k bs)).entries ≡ []
    go true e l = let i = inside-yes f e in body-none (take k bs) k f (omega (arith, length-take k bs)) i.0 i.2 (omega (arith, i.1))
    go false e l = one k l

pub advances-settled : (f : Frame) (bs : List ℕ) (g h : Frame) (n m : ℕ) → Advances f bs g n → Advances f bs h m → (g ≡ h) × (n ≡ m)
advances-settled f bs g h n m a b =
    let e : n ≡ m = a.count ∙ sym b.count in
    (ap (λ (r : Read). r.frame) (sym a.pushes ∙ ap (λ (k : ℕ). following f (take k bs)) e ∙ b.pushes), e)
