-- A lump is a fold of the byte step, and the byte step is that of `records` with the judge behind it.
--   settle-yes               the judge takes a record where it has become whole
--   again, runs, done        the loop over a lump
--   feedings-append          bytes in two lumps are the bytes in one
--   feedings-follow          what a lump does: the frame after it, and the judge after the records that became whole
use mathlib.Core.Path.{◌≡◌, refl, sym, ap, ◌∙◌}
use mathlib.Core.Bool.{Bool, true}
use mathlib.Core.List.{List, [], ◌∷◌, ◌++◌}
use Prim.Native.Nat.{ℕ, ◌+◌, ◌≤◌, ◌<◌}
use native.Mathlib.Omega.{arith}
use lib.ListN.{length, take, drop, drop_of_length-le, take-append-drop, length-drop}
use lib.Seq.{drop-drop}
use Rattle.records.specs.declared.Stage.{Stage}
use Rattle.records.specs.declared.Stage.TheVariants.{Fresh, Part, Whole, Bad}
use Rattle.records.specs.declared.Frame.{Frame}
use Rattle.records.specs.Kinds.{kind_of}
use Rattle.records.specs.Values.{Entry, entry}
use Rattle.records.specs.Frames.{pushed, entry_of, Read, following, ended as whole}
use Rattle.record_fill.specs.Runs.{Advances}
use Rattle.record_fill.proofs.Gathers.{run-some, run-most}
use Rattle.replay_judge.specs.declared.Judge.{Judge}
use Rattle.replay_judge.specs.Judging.{State, state_of, took}
use Rattle.replay.specs.Course.{Course, course_of, is_whole, settled, stepped, feedings}
use Rattle.replay.proofs.Own.{took-own}

module _ (s : State) where
  pub settle-yes : (b : Bool) (k : ℕ) (body : List ℕ) (n : State) → b ≡ true → n ≡ took s (entry k body) → n ≡ settled b s (entry k (take (kind_of k).size body))
  unfolding settled
  settle-yes b k body n e z = rw e (z ∙ took-own s k body)

-- ---- the loop

module _ (c : Course) (bs : List ℕ) (i : ℕ) where
  pub done : length bs ≤ i → feedings c (drop i bs) ≡ c
  unfolding feedings
  done h = rw (drop_of_length-le bs {i = i} h)

-- ---- lumps

pub feedings-append : (c : Course) (xs ys : List ℕ) → feedings c (xs ++ ys) ≡ feedings (feedings c xs) ys
unfolding feedings
feedings-append c [] ys = refl
feedings-append c (x ∷ xs) ys = feedings-append (stepped c x) xs ys

-- records taken one after another
unfoldable pub tooks : State → List Entry → State
tooks s [] = s
tooks s (r ∷ rs) = tooks (took s r) rs

tooks-append : (s : State) (xs ys : List Entry) → tooks (tooks s xs) ys ≡ tooks s (xs ++ ys)
unfolding tooks
tooks-append s [] ys = refl
tooks-append s (x ∷ xs) ys = tooks-append (took s x) xs ys

settled-tooks : (t : Stage) (s : State) (g : Frame) → settled (is_whole t) s (entry_of g) ≡ tooks s (whole t g)
unfolding settled tooks
settled-tooks Fresh s g = refl
settled-tooks Part s g = refl
settled-tooks Whole s g = refl
settled-tooks Bad s g = refl

pub feedings-follow : (f : Frame) (s : State) (bs : List ℕ) → feedings (record { frame = f; state = s }) bs ≡ record { frame = (following f bs).frame; state = tooks s (following f bs).entries }
unfolding feedings following tooks stepped
feedings-follow f s [] = refl
feedings-follow f s (b ∷ bs) =
    let g = pushed f b in
    ap (λ (x : State). feedings (record { frame = g; state = x }) bs) (settled-tooks g.stage s g)
    ∙ feedings-follow g (tooks s (whole g.stage g)) bs
    ∙ ap (λ (t : State). record { frame = (following g bs).frame; state = t }) (tooks-append s (whole g.stage g) (following g bs).entries)

-- ---- a run of bytes

pub again : (c₀ : Course) (bs : List ℕ) (i n : ℕ) (f : Frame) (j : Judge) (sums registers picks due : List ℕ) (f₁ : Frame) (j₁ : Judge)
    (sums₁ registers₁ picks₁ due₁ : List ℕ) → feedings c₀ bs ≡ feedings (course_of f j sums registers picks due) (drop i bs) → Advances f (drop i bs) f₁ n
    → state_of j₁ sums₁ registers₁ picks₁ due₁ ≡ settled (is_whole f₁.stage) (state_of j sums registers picks due) (entry_of f₁)
    → feedings c₀ bs ≡ feedings (course_of f₁ j₁ sums₁ registers₁ picks₁ due₁) (drop (i + n) bs)
again c₀ bs i n f j sums registers picks due f₁ j₁ sums₁ registers₁ picks₁ due₁ inv a k =
    let s = state_of j sums registers picks due in
    let c = course_of f j sums registers picks due in
    let ds = drop i bs in
    let z : feedings c (take n ds) ≡ course_of f₁ j₁ sums₁ registers₁ picks₁ due₁ =
    feedings-follow f s (take n ds)
    ∙ ap (λ (x : Read). record { frame = x.frame; state = tooks s x.entries }) a.pushes
    ∙ ap (λ (t : State). record { frame = f₁; state = t }) (sym (settled-tooks f₁.stage s f₁) ∙ sym k) in
    inv ∙ ap (λ (l : List ℕ). feedings c l) (sym (take-append-drop n ds)) ∙ feedings-append c (take n ds) (drop n ds)
    ∙ ap (λ (x : Course). feedings x (drop n ds)) z ∙ ap (λ (l : List ℕ). feedings (course_of f₁ j₁ sums₁ registers₁ picks₁ due₁) l) (drop-drop n i bs)

-- a run moves on, and not past the end
pub runs : (f : Frame) (bs : List ℕ) (i n : ℕ) (g : Frame) → i < length bs → Advances f (drop i bs) g n → (0 < n) × (i + n ≤ length bs)
runs f bs i n g h a =
    let d = length-drop i bs in
    let e = a.count in
    (omega (arith, e, run-some f (drop i bs) (omega (arith, d))), omega (arith, d, e, run-most f (drop i bs) (omega (arith, d))))
