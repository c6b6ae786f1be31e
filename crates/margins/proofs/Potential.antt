-- Two sequences through the trellis, step by step: in how many coordinates their points must differ while their states differ. All of it
-- is computed.
--   weight           by the bits of two symbols: how many coordinates of their points differ at least (weight-labels)
--   level s t        how high two states stand apart, 0 to 6: a potential, by the difference of the two states
--   steps-rise       while the states differ, three times the weight of a step and the level before it are more than the level after it
--   low-is           a state whose level beside the end is 3 or less is reached by one other symbol
--   level-begun, level-least, level-same   a level is at most 6, 0 with a named start; of different states at least 3, of one state 0
use mathlib.Core.Path.{◌≡◌, refl, sym, ap, ◌∙◌}
use mathlib.Core.Bool.{Bool, true, false, cond, ◌&&◌, ◌||◌}
use mathlib.Core.List.{List, [], ◌∷◌}
use Prim.Native.Nat.{ℕ, suc, ◌+◌, ◌*◌, ◌/◌, ◌%◌, ◌≤◌, ◌<◌}
use native.Mathlib.Omega.{arith}
use borrow.Author.Tests.{leb-true, eqb-true}
use lib.Dec.{T, eqb, leb, leb→le, eqb→eq}
use lib.ListN.{get_or}
use Rattle.wei.specs.Label.{turn_of, second_label}
use Rattle.wei.specs.State.{state_of, bit_w1, bit_w2, bit_w3, bit_w4, next_state}
use Rattle.wei.specs.Symbol.{Symbol, first_label, last_label, Valid}
use Rattle.wei.proofs.Finite.{and_left, and_right, equal1}
use Rattle.points.specs.Turn.{remainder_x, remainder_y}
use Rattle.trellis.specs.Measure as measure
use Rattle.promises.proofs.Coordinates.{unlike}
use Rattle.margins.specs.Latest.{begun}
use Rattle.margins.proofs.Bits.{bits4, states, at-bits4, at-states}

-- of Y0, I1 and I2' of each
abbrev pub weight : ℕ → ℕ → ℕ → ℕ → ℕ → ℕ → ℕ
weight y i j z k l = cond (eqb y z) (cond (eqb i k && eqb j l) 0 2) 1

-- ---- labels

-- in how many coordinates the remainders modulo 4 of two labels differ
abbrev pub unlike_labels : ℕ → ℕ → ℕ
unlike_labels l m = unlike (remainder_x l) (remainder_x m) + unlike (remainder_y l) (remainder_y m)

abbrev labels_test : ℕ → ℕ → ℕ → ℕ → ℕ → ℕ → ℕ → ℕ → Bool
labels_test y i j h z k l m =
    leb (weight y i j z k l) (unlike_labels (turn_of j h) (turn_of l m) + unlike_labels (second_label (turn_of j h) y i) (second_label (turn_of l m) z k))

labels-computed : T (bits4 (λ y i j h. bits4 (labels_test y i j h)))
unfolding second_label
labels-computed = tt

pub weight-labels : (u : ℕ) (c d : Symbol) → Valid u c → Valid u d → weight c.y0 c.i1 c.i2 d.y0 d.i1 d.i2
    ≤ unlike_labels (first_label c) (first_label d) + unlike_labels (last_label c) (last_label d)
unfolding last_label
weight-labels u c d v w =
    leb→le (weight c.y0 c.i1 c.i2 d.y0 d.i1 d.i2) (unlike_labels (first_label c) (first_label d) + unlike_labels (last_label c) (last_label d))
    (at-bits4 (labels_test c.y0 c.i1 c.i2 c.i3)
    (at-bits4 (λ y i j h. bits4 (labels_test y i j h)) labels-computed c.y0 c.i1 c.i2 c.i3 v.y0-below v.i1-below v.i2-below v.i3-below)
    d.y0 d.i1 d.i2 d.i3 w.y0-below w.i1-below w.i2-below w.i3-below)

-- ---- states

-- the bits in which two states differ, as a state
unfoldable pub differing : ℕ → ℕ → ℕ
differing s t = state_of ((bit_w1 s + bit_w1 t) % 2) ((bit_w2 s + bit_w2 t) % 2) ((bit_w3 s + bit_w3 t) % 2) ((bit_w4 s + bit_w4 t) % 2)

unfoldable heights : List ℕ
heights = 0 ∷ 3 ∷ 4 ∷ 5 ∷ 5 ∷ 5 ∷ 5 ∷ 5 ∷ 4 ∷ 3 ∷ 5 ∷ 4 ∷ 6 ∷ 6 ∷ 6 ∷ 6 ∷ []

unfoldable pub level : ℕ → ℕ → ℕ
unfolding differing heights
level s t = get_or heights (differing s t) 0

-- the level after a step and one more, and 0 where the states have met
abbrev pub climbed : ℕ → ℕ → ℕ
climbed s t = cond (eqb s t) 0 (suc (level s t))

abbrev step_test : ℕ → ℕ → ℕ → ℕ → ℕ → ℕ → Bool
step_test s t i j k l = leb (climbed (next_state s i j) (next_state t k l)) (3 * weight (bit_w4 s) i j (bit_w4 t) k l + level s t)

steps-computed : T (states (λ s t. bits4 (step_test s t)))
unfolding next_state level
steps-computed = tt

pub steps-rise : (s t i j k l : ℕ) → s < 16 → t < 16 → i < 2 → j < 2 → k < 2 → l < 2 →
    climbed (next_state s i j) (next_state t k l) ≤ 3 * weight (bit_w4 s) i j (bit_w4 t) k l + level s t
steps-rise s t i j k l a b c d e f =
    leb→le (climbed (next_state s i j) (next_state t k l)) (3 * weight (bit_w4 s) i j (bit_w4 t) k l + level s t)
    (at-bits4 (step_test s t) (at-states (λ s t. bits4 (step_test s t)) steps-computed s t a b) i j k l c d e f)

-- at most 6, and 3 at least where they differ
abbrev level_test : ℕ → ℕ → Bool
level_test s t = leb (level s t) 6 && leb (cond (eqb s t) 0 3) (level s t)

levels-computed : T (states level_test)
unfolding level
levels-computed = tt

level-most : (s t : ℕ) → s < 16 → t < 16 → level s t ≤ 6
level-most s t a b = leb→le (level s t) 6 (and_left (leb (level s t) 6) (leb (cond (eqb s t) 0 3) (level s t)) (at-states level_test levels-computed s t a b))

pub level-least : (s t : ℕ) → s < 16 → t < 16 → cond (eqb s t) 0 3 ≤ level s t
level-least s t a b =
    leb→le (cond (eqb s t) 0 3) (level s t) (and_right (leb (level s t) 6) (leb (cond (eqb s t) 0 3) (level s t)) (at-states level_test levels-computed s t a b))

pub level-same : (s : ℕ) → s < 16 → level s s ≡ 0
unfolding level
level-same = equal1 16 (λ s. level s s) (λ s. 0) tt

pub level-begun : (b : measure.Start) (s t : ℕ) → s < 16 → t < 16 → T (measure.may_start b s) → T (measure.may_start b t) → level s t ≤ begun b
level-begun measure.free s t h k x y = level-most s t h k
level-begun (measure.named n) s t h k x y =
    let e : s ≡ t = eqb→eq s n x ∙ sym (eqb→eq t n y) in
    let z : level s t ≡ 0 = ap (level s) (sym e) ∙ level-same s h in
    omega arith

-- ---- leaving a sequence for its last two symbols

-- the state differing, two steps from s to t
unfoldable pub middle : ℕ → ℕ → ℕ
middle s t = 4 * (s % 4) + t / 4

-- from the state o by I1 and I2' i, j and then k, l: a state as low beside the end as 3 needs one other symbol only, the last or the one before it
abbrev low_test : ℕ → ℕ → ℕ → ℕ → ℕ → ℕ → Bool
low_test o s i j k l =
    let r = next_state o i j in
    let m = middle o s in
    leb 4 (level s (next_state r k l)) || (eqb m r || (eqb (bit_w4 m) (bit_w4 r) && eqb (next_state m k l) s))

low-computed : T (states (λ o s. bits4 (low_test o s)))
unfolding next_state level middle
low-computed = tt

pub data Low (o s r t k l : ℕ) : Type 0 where
  high : 4 ≤ level s t → Low o s r t k l
  last-only : middle o s ≡ r → Low o s r t k l
  before-only : bit_w4 (middle o s) ≡ bit_w4 r → next_state (middle o s) k l ≡ s → Low o s r t k l

pub low-is : (o s i j k l : ℕ) → o < 16 → s < 16 → i < 2 → j < 2 → k < 2 → l < 2 → Low o s (next_state o i j) (next_state (next_state o i j) k l) k l
low-is o s i j k l a b c d e f =
    go (leb 4 (level s t)) (eqb m r) (eqb (bit_w4 m) (bit_w4 r)) (eqb (next_state m k l) s) refl refl refl refl
    (at-bits4 (low_test o s) (at-states (λ o s. bits4 (low_test o s)) low-computed o s a b) i j k l c d e f)
  where
    r : ℕ
    r = next_state o i j

    t : ℕ
    t = next_state r k l

    m : ℕ
    m = middle o s

    go : (p q u v : Bool) → leb 4 (level s t) ≡ p → eqb m r ≡ q → eqb (bit_w4 m) (bit_w4 r) ≡ u → eqb (next_state m k l) s ≡ v → T (p || (q || (u && v))) → Low o s r t k l
    go true q u v x y z w h = high (leb-true 4 (level s t) x)
    go false true u v x y z w h = last-only (eqb-true m r y)
    go false false true true x y z w h = before-only (eqb-true (bit_w4 m) (bit_w4 r) z) (eqb-true (next_state m k l) s w)
    go false false true false x y z w h = absurd h
    go false false false v x y z w h = absurd h
