-- Turned points: a point of label l has that label's remainders modulo 4, and its coordinates are as small as the table's.
--   labelled-turned   a quarter turn adds 1 to the label modulo 4
--   labelled          the remainders of the point with label l
--   small-point       its coordinates
use mathlib.Core.Path.{◌≡◌, refl, ap, subst, ◌∙◌}
use Prim.Native.Nat.{ℕ, zero, suc, ◌+◌, ◌-◌, ◌%◌, ◌<◌}
use native.Mathlib.Omega.{arith}
use lib.IntN.{ℤ, pos, negsuc, neg_ℤ}
use Rattle.points.specs.declared.Point.{Point}
use Rattle.points.specs.Points.{mod4, a_point}
use Rattle.points.specs.Turn.{turned, turns, point_of, remainder_x, Labelled, Small}
use Rattle.points.proofs.Signed.{nat_abs-neg}
use Rattle.points.proofs.Rule.{small, rule}

small-turned : (p : Point) → Small p → Small (turned p)
small-turned p h = record { x-small = h.y-small; y-small = omega (arith, nat_abs-neg p.x, h.x-small) }

pub small-turns : (l w : ℕ) → w < 256 → Small (turns l (a_point w))
small-turns zero w h = small w h
small-turns (suc l) w h = small-turned (turns l (a_point w)) (small-turns l w h)

pub small-point : (l w : ℕ) → w < 256 → Small (point_of l w)
unfolding point_of
small-point l w h = small-turns l w h

mod4-neg : (z : ℤ) → mod4 (neg_ℤ z) ≡ (4 - mod4 z) % 4
mod4-neg (pos zero) = refl
mod4-neg (pos (suc n)) = omega arith
mod4-neg (negsuc n) = omega arith

pub labelled-turned : (l : ℕ) (p : Point) → l < 4 → Labelled l p → Labelled ((l + 1) % 4) (turned p)
labelled-turned l p h a = go l h a (mod4-neg p.x ∙ ap (λ (n : ℕ). (4 - n) % 4) a.x-is)
  where
    go : (l : ℕ) → l < 4 → (a : Labelled l p) → mod4 (neg_ℤ p.x) ≡ (4 - remainder_x l) % 4 → Labelled ((l + 1) % 4) (turned p)
    go zero h a e = record { x-is = a.y-is; y-is = e }
    go (suc zero) h a e = record { x-is = a.y-is; y-is = e }
    go (suc (suc zero)) h a e = record { x-is = a.y-is; y-is = e }
    go (suc (suc (suc zero))) h a e = record { x-is = a.y-is; y-is = e }
    go (suc (suc (suc (suc n)))) h a e = absurd (omega arith)

labelled-turns : (l w : ℕ) → w < 256 → Labelled (l % 4) (turns l (a_point w))
labelled-turns zero w h = let a = rule.each w h in record { x-is = a.x-is; y-is = a.y-is }
labelled-turns (suc l) w h =
    let e : (l % 4 + 1) % 4 ≡ suc l % 4 = omega arith in
    subst (λ (n : ℕ). Labelled n (turned (turns l (a_point w)))) e
    (labelled-turned (l % 4) (turns l (a_point w)) (omega arith) (labelled-turns l w h))

pub labelled : (l w : ℕ) → l < 4 → w < 256 → Labelled l (point_of l w)
unfolding point_of
labelled l w g h =
    let e : l % 4 ≡ l = omega arith in
    subst (λ (n : ℕ). Labelled n (turns l (a_point w))) e (labelled-turns l w h)
