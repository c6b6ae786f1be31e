-- The size of a signed difference, and what a squared distance leaves modulo 256.
--   Spread d a b     d is the sum or the difference of a and b
--   nat_abs-*         the size of a product
--   spread           the size of r - 128 c is such a sum or difference, of those of r and 128 c
--   same_rest        all distances from one spot leave the same remainder modulo 256
use mathlib.Core.Path.{◌≡◌, refl, sym, ap, ◌∙◌}
use mathlib.Core.Bool.{Bool, true, false, cond}
use Prim.Native.Nat.{ℕ, suc, ◌+◌, ◌-◌, ◌*◌, ◌%◌}
use native.Mathlib.Nat.{add-mul, mul-add, mul_assoc, mul_comm, mul_left_comm}
use native.Mathlib.Omega.{arith}
use borrow.Author.Tests.{ltb-true, ltb-false}
use lib.Dec.{ltb}
use lib.IntN.{ℤ, pos, negsuc, neg_ℤ, nat_abs, sub_ℕ, ◌-ℤ◌, ◌+ℤ◌, ◌*ℤ◌}
use Rattle.points.specs.declared.Point.{Point}
use Rattle.points.proofs.Signed.{nat_abs-neg}
use Rattle.distance.specs.declared.Spot.{Spot}
use Rattle.distance.specs.Distance.{difference, square, distance}

-- of three sizes, one is the sum of the other two
pub data Spread (d a b : ℕ) : Type 0 where
  sum : d ≡ a + b → Spread d a b
  first : d + b ≡ a → Spread d a b
  second : d + a ≡ b → Spread d a b

spread-sub : (a b : ℕ) → Spread (nat_abs (sub_ℕ a b)) a b
spread-sub a b = go (ltb a b) refl
  where
    go : (t : Bool) → ltb a b ≡ t → Spread (nat_abs (cond t (negsuc (b - suc a)) (pos (a - b)))) a b
    go true e = second (omega (arith, ltb-true a b e))
    go false e = first (omega (arith, ltb-false a b e))

swapped : {d a b : ℕ} → Spread d a b → Spread d b a
swapped (sum e) = sum (omega arith)
swapped (first e) = second e
swapped (second e) = first e

spread-+ : (a b : ℤ) → Spread (nat_abs (a +ℤ b)) (nat_abs a) (nat_abs b)
spread-+ (pos a) (pos b) = sum refl
spread-+ (pos a) (negsuc b) = spread-sub a (suc b)
spread-+ (negsuc a) (pos b) = swapped (spread-sub b (suc a))
spread-+ (negsuc a) (negsuc b) = sum (omega arith)

spread-- : (a b : ℤ) → Spread (nat_abs (a -ℤ b)) (nat_abs a) (nat_abs b)
spread-- a b = rw nat_abs-neg at (spread-+ a (neg_ℤ b))

pub nat_abs-* : (a b : ℤ) → nat_abs (a *ℤ b) ≡ nat_abs a * nat_abs b
nat_abs-* (pos a) (pos b) = refl
nat_abs-* (pos a) (negsuc b) = nat_abs-neg (pos (a * suc b))
nat_abs-* (negsuc a) (pos b) = nat_abs-neg (pos (suc a * b))
nat_abs-* (negsuc a) (negsuc b) = refl

pub spread : (r c : ℤ) → Spread (nat_abs (difference r c)) (nat_abs r) (128 * nat_abs c)
spread r c = rw (nat_abs-* (pos 128) c) at (spread-- r (pos 128 *ℤ c))

-- (a + 128 b)² is a² and a multiple of 256
square-plus : (a b : ℕ) → (a + 128 * b) * (a + 128 * b) ≡ a * a + 256 * (a * b + 64 * (b * b))
square-plus a b =
    omega (
      arith,
      add-mul a (128 * b) (a + 128 * b),
      mul-add a a (128 * b),
      mul-add (128 * b) a (128 * b),
      mul_left_comm a 128 b,
      mul_assoc 128 b a,
      mul_comm b a,
      mul_assoc 128 b (128 * b),
      mul_left_comm b 128 b,
    )

square-rest : {d a : ℕ} (b : ℕ) → Spread d a (128 * b) → d * d % 256 ≡ a * a % 256
square-rest {d} {a} b (sum e) = omega (arith, square-plus a b, ap (λ (n : ℕ). n * n) e)
square-rest {d} {a} b (first e) = omega (arith, square-plus d b, ap (λ (n : ℕ). n * n) e)
square-rest {d} {a} b (second e) =
    omega (arith, times d, times a, times b, mul_comm a d, mul_comm b d, mul_comm b a)
  where
    -- n (d + a) is 128 n b
    times : (n : ℕ) → n * d + n * a ≡ 128 * (n * b)
    times n = sym (mul-add n d a) ∙ ap (λ (m : ℕ). n * m) e ∙ mul_left_comm n 128 b

rest : (h : Spot) (p : Point) → distance h p % 256 ≡ (square h.x + square h.y) % 256
unfolding distance
rest h p = omega (arith, square-rest (nat_abs p.x) (spread h.x p.x), square-rest (nat_abs p.y) (spread h.y p.y))

pub same_rest : (h : Spot) (p q : Point) → distance h p % 256 ≡ distance h q % 256
same_rest h p q = rest h p ∙ sym (rest h q)
