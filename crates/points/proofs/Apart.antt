-- Different labels or numbers give different points, and the two points of a symbol fix it.
--   points-apart    a point of the map has one label and one number
--   symbols-apart   valid symbols whose points are equal are equal
use mathlib.Core.Path.{◌≡◌, refl, sym, ap, subst, ◌∙◌}
use Prim.Native.Nat.{ℕ, zero, suc, ◌+◌, ◌-◌, ◌/◌, ◌%◌, ◌^◌, ◌≤◌, ◌<◌}
use native.Mathlib.Omega.{arith}
use lib.IntN.{neg_ℤ}
use lib.Pow.{pow_mono}
use Rattle.points.specs.declared.Point.{Point}
use Rattle.points.specs.Points.{a_point}
use Rattle.points.specs.Turn.{turned, turns, point_of, remainder_x, remainder_y, Labelled}
use Rattle.points.specs.Pair.{first_point, second_point}
use Rattle.points.proofs.Signed.{neg-neg}
use Rattle.points.proofs.Rule.{rule}
use Rattle.points.proofs.Turns.{labelled}
use Rattle.points.proofs.Unique.{distinct}
use Rattle.wei.specs.Symbol.{Symbol, first_label, last_label, Valid}
use Rattle.wei.proofs.Labels.{labels_apart, second_below}

-- the label from the remainders
label_from : ℕ → ℕ → ℕ
label_from x y = x - 1 + ((x - 1) / 2 + (y - 1) / 2) % 2

label-from : (l : ℕ) → l < 4 → label_from (remainder_x l) (remainder_y l) ≡ l
unfolding label_from
label-from zero h = refl
label-from (suc zero) h = refl
label-from (suc (suc zero)) h = refl
label-from (suc (suc (suc zero))) h = refl
label-from (suc (suc (suc (suc n)))) h = absurd (omega arith)

one_label : (l m : ℕ) (p : Point) → l < 4 → m < 4 → Labelled l p → Labelled m p → l ≡ m
one_label l m p g h a b =
    let z₁ : remainder_x l ≡ remainder_x m = sym a.x-is ∙ b.x-is in
    let z₂ : remainder_y l ≡ remainder_y m = sym a.y-is ∙ b.y-is in
    let z₃ : label_from (remainder_x l) (remainder_y l) ≡ label_from (remainder_x m) (remainder_y m) = cc in
    sym (label-from l g) ∙ z₃ ∙ label-from m h

turn-inj : (p q : Point) → turned p ≡ turned q → p ≡ q
turn-inj p q e =
    let y = ap (λ (r : Point). r.x) e in
    let x = sym (neg-neg p.x) ∙ ap (λ (r : Point). neg_ℤ r.y) e ∙ neg-neg q.x in
    λ i. record { x = x i; y = y i }

turns-inj : (l : ℕ) (p q : Point) → turns l p ≡ turns l q → p ≡ q
turns-inj zero p q e = e
turns-inj (suc l) p q e = turns-inj l p q (turn-inj (turns l p) (turns l q) e)

pub points-apart : (l m w v : ℕ) → l < 4 → m < 4 → w < 256 → v < 256 → point_of l w ≡ point_of m v → (l ≡ m) × (w ≡ v)
unfolding point_of
points-apart l m w v g h a b e =
    let s : l ≡ m = one_label l m (turns m (a_point v)) g h (subst (Labelled l) e (labelled l w g a)) (labelled m v h b) in
    let t : turns l (a_point w) ≡ turns l (a_point v) = e ∙ ap (λ (k : ℕ). turns k (a_point v)) (sym s) in
    (s, distinct 256 a_point rule w v a b (turns-inj l (a_point w) (a_point v) t))

pub symbols-apart : (u : ℕ) (c d : Symbol) → u ≤ 8 → Valid u c → Valid u d → first_point c ≡ first_point d → second_point c ≡ second_point d → c ≡ d
unfolding first_point second_point last_label
symbols-apart u c d h p q e f =
    let k : 2 ^ u ≤ 256 = pow_mono h in
    let a =
    points-apart (first_label c) (first_label d) c.w1 d.w1 (omega (arith, p.i2-below, p.i3-below)) (omega (arith, q.i2-below, q.i3-below))
    (omega (arith, p.w1-below)) (omega (arith, q.w1-below)) e in
    let b =
    points-apart (last_label c) (last_label d) c.w2 d.w2 (second_below (first_label c) c.y0 c.i1) (second_below (first_label d) d.y0 d.i1)
    (omega (arith, p.w2-below)) (omega (arith, q.w2-below)) f in
    labels_apart u u c d p q a.0 b.0 a.1 b.1
