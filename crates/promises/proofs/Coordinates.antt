-- One coordinate. Coordinates of points are odd, so two that differ stand 256 line units apart or more; what is heard at most n from the
-- one is at least 256 - n from the other, for n up to 127.
--   margin n         what the squares of the two distances differ by then, at least
--   Placed c         c is a coordinate that a point can have
--   near-in-range    what is heard near such a coordinate can be heard
--   coordinate-gap   the gap between the squares, for another coordinate; coordinate-cases, by decision
--   unlike a b       1 where two remainders modulo 4 differ, else 0
--   unlike-gap       the gap by the remainders modulo 4 alone
use mathlib.Core.Path.{◌≡◌, refl, sym, ap, ◌∙◌}
use mathlib.Core.Bool.{Bool, true, false, cond}
use Prim.Native.Nat.{ℕ, ◌+◌, ◌-◌, ◌*◌, ◌%◌, ◌≤◌, ◌<◌}
use native.Mathlib.Nat.{mul-add, mul_comm, mul-le-mul}
use native.Mathlib.Decide.{dec_lt}
use native.Mathlib.Omega.{arith}
use lib.Dec.{eqb}
use borrow.Author.Tests.{eqb-false}
use lib.IntN.{ℤ, pos, negsuc, nat_abs, ℤ_discrete}
use Rattle.points.specs.Points.{mod4}
use Rattle.distance.specs.Distance.{difference, square}
use Rattle.distance.proofs.Rests.{Spread, sum, first, second, spread}
use Rattle.round_places.specs.Places.{stand_of}
use Rattle.round_columns.specs.Cells.{count_of, apart_of}
use Rattle.round_columns.proofs.Counts.{away}

abbrev pub margin : ℕ → ℕ
margin n = 256 * (256 - 2 * n)

pub record Placed (c : ℤ) : Type 0 where
  pub odd : mod4 c % 2 ≡ 1
  pub small : nat_abs c ≤ 39

-- ---- natural numbers

squares : (a b n : ℕ) → a ≤ n → n ≤ 127 → 256 ≤ a + b → a * a + margin n ≤ b * b
squares a b n h k s = go (256 - a) (omega arith) (omega arith)
  where
    go : (c : ℕ) → c + a ≡ 256 → c ≤ b → a * a + margin n ≤ b * b
    go c e l =
        let x : c * c + c * a ≡ c * 256 = sym (mul-add c c a) ∙ ap (λ (m : ℕ). c * m) e in
        let y : a * c + a * a ≡ a * 256 = sym (mul-add a c a) ∙ ap (λ (m : ℕ). a * m) e in
        omega (arith, x, y, mul_comm a c, mul-le-mul l l)

above : (a s t : ℕ) → s + 2 ≤ t → 256 ≤ apart_of a (128 * s) + apart_of a (128 * t)
above a s t h = omega arith

two-apart : (a s t : ℕ) → s % 2 ≡ 0 → t % 2 ≡ 0 → (s ≡ t → ⊥) → 256 ≤ apart_of a (128 * s) + apart_of a (128 * t)
two-apart a s t e f n = go (dec_lt s t)
  where
    go : Dec (s < t) → 256 ≤ apart_of a (128 * s) + apart_of a (128 * t)
    go (yes l) = above a s t (let z : s + 2 ≤ t = omega arith in z)
    go (no l) = omega (arith, above a t s (let z : t + 2 ≤ s = omega arith in z))

-- ---- places

stand-even : (c : ℤ) → Placed c → stand_of c % 2 ≡ 0
stand-even (pos n) p = let h = p.odd in let k = p.small in omega arith
stand-even (negsuc n) p = let h = p.odd in let k = p.small in omega arith

stand-only : (c d : ℤ) → Placed c → Placed d → stand_of c ≡ stand_of d → c ≡ d
stand-only (pos a) (pos b) p q e = ap pos (omega arith)
stand-only (pos a) (negsuc b) p q e = absurd (omega arith)
stand-only (negsuc a) (pos b) p q e = absurd (omega arith)
stand-only (negsuc a) (negsuc b) p q e = let h = p.small in let k = q.small in ap negsuc (omega arith)

pub near-in-range : (r c : ℤ) (n : ℕ) → nat_abs (difference r c) ≤ n → n ≤ 127 → Placed c → nat_abs r ≤ 8192
near-in-range r c n h k p = go (spread r c)
  where
    go : Spread (nat_abs (difference r c)) (nat_abs r) (128 * nat_abs c) → nat_abs r ≤ 8192
    go (sum e) = omega (arith, p.small)
    go (first e) = omega (arith, p.small)
    go (second e) = omega (arith, p.small)

module _ (n : ℕ) (k : n ≤ 127) (r c d : ℤ) (h : nat_abs (difference r c) ≤ n) (p : Placed c) (q : Placed d) where
  pub coordinate-gap : (c ≡ d → ⊥) → square (difference r c) + margin n ≤ square (difference r d)
  coordinate-gap e =
      let g = near-in-range r c n h k p in
      let x = away r c g p.small in
      let y = away r d g q.small in
      let z = two-apart (count_of r) (stand_of c) (stand_of d) (stand-even c p) (stand-even d q) (λ w. e (stand-only c d p q w)) in
      squares (nat_abs (difference r c)) (nat_abs (difference r d)) n h k (omega (arith, x, y, z))

abbrev pub unlike : ℕ → ℕ → ℕ
unlike a b = cond (eqb a b) 0 1

module _ (n : ℕ) (k : n ≤ 127) (r c d : ℤ) (h : nat_abs (difference r c) ≤ n) (p : Placed c) (q : Placed d) where
  -- by decision: the gap, or the same coordinate
  module _ {A : Type 0} (apart : square (difference r c) + margin n ≤ square (difference r d) → (c ≡ d → ⊥) → A) (same : c ≡ d → A) where
    pub coordinate-cases : A
    coordinate-cases = go (ℤ_discrete c d)
      where
        go : Dec (c ≡ d) → A
        go (yes e) = same e
        go (no e) = apart (coordinate-gap n k r c d h p q e) e

  pub coordinate-least : square (difference r c) ≤ square (difference r d)
  coordinate-least = coordinate-cases (λ g e. omega arith) (λ e. let z : square (difference r c) ≡ square (difference r d) = ap (λ (x : ℤ). square (difference r x)) e in omega arith)

  pub unlike-gap : square (difference r c) + margin n * unlike (mod4 d) (mod4 c) ≤ square (difference r d)
  unlike-gap = coordinate-cases (λ g e. go (eqb (mod4 d) (mod4 c)) refl g) (λ e. same e (eqb (mod4 d) (mod4 c)) refl)
    where
      go : (b : Bool) → eqb (mod4 d) (mod4 c) ≡ b → square (difference r c) + margin n ≤ square (difference r d) → square (difference r c) + margin n * cond b 0 1 ≤ square (difference r d)
      go true e g = omega arith
      go false e g = omega arith

      same : c ≡ d → (b : Bool) → eqb (mod4 d) (mod4 c) ≡ b → square (difference r c) + margin n * cond b 0 1 ≤ square (difference r d)
      same e true f = let z : square (difference r c) ≡ square (difference r d) = ap (λ (x : ℤ). square (difference r x)) e in omega arith
      same e false f = absurd (eqb-false (mod4 d) (mod4 c) f (ap mod4 (sym e)))
