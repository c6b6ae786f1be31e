-- What `nearest_even n d` is, over whole numbers alone: nothing here is about floats. It leans on specs/Nearest.antt, and on the library
-- for equal fractions.
--   nearest-is     it is nearest to n / d, and even at a half
--   nearest-only   no other number is
--   nearest-le, nearest-ge   a whole number that bounds n / d bounds it
--   nearest-closest, nearest-same   it is the library's `closest`, and depends on the fraction's value alone
--   nearest-plus, nearest-minus     it moves with an even whole number that n / d is added to or taken from
use mathlib.Core.Path.{◌≡◌, refl, sym, ap, ◌∙◌, subst}
use Prim.Native.Nat.{ℕ, zero, suc, ◌+◌, ◌-◌, ◌*◌, ◌/◌, ◌%◌, ◌≤◌, ◌<◌, compare, Ordering}
use native.Mathlib.Nat.{add-mul, one-mul, mod-lt, div-add-mod', mul-le-mul_right, mul_comm, mul-sub, le_antisymm, le_of_suc-le-suc, lt_of_not-le}
use native.Mathlib.Omega.{arith}
use mathlib.Core.Bool.{not}
use lib.Dec.{T, is_le, compare_is_eq, leb→le, nleb→lt, eqb→eq, eqb, eqb_refl}
use lib.Arith.{lt_of_le-ne}
use lib.Ieee.{nearest}
use lib.Ieee.Nearest.{closest, closest_same}
use Rattle.samples.specs.Nearest.{round_by, nearest_even, IsNearest}

-- ---- it is nearest
abbrev Compared : Ordering → ℕ → ℕ → Type 0
Compared Ordering.lt a b = a < b
Compared Ordering.eq a b = a ≡ b
Compared Ordering.gt a b = b < a

compared : (a b : ℕ) → Compared (compare a b) a b
compared a b = go (compare a b) (leb→le a b) (nleb→lt a b) (eqb→eq a b) (λ (e : a ≡ b). subst (λ (x : ℕ). T (eqb a x)) e (eqb_refl a))
  where
    go : (o : Ordering) → (T (is_le o) → a ≤ b) → (T (not (is_le o)) → b < a) → (T (compare_is_eq o) → a ≡ b) → (a ≡ b → T (compare_is_eq o)) → Compared o a b
    go Ordering.lt h k e n = lt_of_le-ne (h tt) n
    go Ordering.eq h k e n = e tt
    go Ordering.gt h k e n = k tt

not_more : (a b : ℕ) → (b < a → ⊥) → a ≤ b
not_more a b h = le_of_suc-le-suc (lt_of_not-le h)

one_more : (q d : ℕ) → (q + 1) * d ≡ q * d + d
one_more q d = add-mul q 1 d ∙ ap (λ (z : ℕ). q * d + z) (one-mul d)

-- n / d is q and the remainder x
module _ (n d q x : ℕ) (D : 0 < d) (X : x < d) (e : q * d + x ≡ n) where
  stay : x * 2 ≤ d → (x * 2 ≡ d → q % 2 ≡ 0) → IsNearest n d q
  stay h even = record { not-above = omega arith; not-below = omega arith; even-above = λ t. omega arith; even-below = λ t. even (omega arith) }

  step : d ≤ x * 2 → (x * 2 ≡ d → q % 2 ≡ 1) → IsNearest n d (q + 1)
  step h odd =
      let k = one_more q d in
      record { not-above = omega arith; not-below = omega arith; even-above = λ t. omega (arith, odd (omega arith)); even-below = λ t. omega arith }

  at-half : x * 2 ≡ d → IsNearest n d (q + q % 2)
  at-half h = go (q % 2) refl
    where
      go : (p : ℕ) → q % 2 ≡ p → IsNearest n d (q + p)
      go zero i = subst (λ (r : ℕ). IsNearest n d r) (omega arith) (stay (omega arith) (λ t. i))
      go (suc zero) i = step (omega arith) (λ t. i)
      go (suc (suc p)) i = omega arith

  rounded-by : (o : Ordering) → Compared o (x * 2) d → IsNearest n d (round_by o q)
  rounded-by Ordering.lt h = stay (omega arith) (λ t. omega arith)
  rounded-by Ordering.eq h = at-half h
  rounded-by Ordering.gt h = step (omega arith) (λ t. omega arith)

pub nearest-is : (n d : ℕ) → 0 < d → IsNearest n d (nearest_even n d)
unfolding nearest_even
nearest-is n d D = rounded-by n d (n / d) (n % d) D (mod-lt n D) (div-add-mod' n d) (compare (n % d * 2) d) (compared (n % d * 2) d)

-- ---- and the only one
-- two different ones would be a half away on either side, next to each other and both even
module _ (n d r s : ℕ) (D : 0 < d) (p : IsNearest n d r) (q : IsNearest n d s) where
  apart : r < s → ⊥
  apart l =
      let near : s * d ≤ r * d + d = omega (arith, p.not-below, q.not-above) in
      let next : s < r + 2 = lt_of_not-le (λ (w : r + 2 ≤ s). omega (arith, mul-le-mul_right d w, add-mul r 2 d)) in
      let step : s * d ≡ r * d + d = ap (λ (z : ℕ). z * d) (omega arith) ∙ one_more r d in
      omega (arith, p.even-below (omega (arith, p.not-below, q.not-above)), q.even-above (omega (arith, p.not-below, q.not-above)))

pub nearest-only : (n d r s : ℕ) → 0 < d → IsNearest n d r → IsNearest n d s → r ≡ s
nearest-only n d r s D p q =
    le_antisymm (not_more r s (apart n d s r D q p)) (not_more s r (apart n d r s D p q))

-- ---- what bounds the fraction
pub nearest-le : (n d q : ℕ) → 0 < d → n ≤ q * d → nearest_even n d ≤ q
nearest-le n d q D h = not_more (nearest_even n d) q (over (nearest_even n d) (nearest-is n d D))
  where
    over : (r : ℕ) → IsNearest n d r → q < r → ⊥
    over r p w =
        let m : (q + 1) * d ≤ r * d = mul-le-mul_right d (omega arith) in
        omega (arith, one_more q d, p.not-above)

pub nearest-ge : (n d q : ℕ) → 0 < d → q * d ≤ n → q ≤ nearest_even n d
nearest-ge n d q D h = not_more q (nearest_even n d) (under (nearest_even n d) (nearest-is n d D))
  where
    under : (r : ℕ) → IsNearest n d r → r < q → ⊥
    under r p w =
        let m : (r + 1) * d ≤ q * d = mul-le-mul_right d (omega arith) in
        omega (arith, one_more r d, p.not-below)

-- ---- the library's rounding
pub nearest-closest : (n d : ℕ) → closest n d ≡ nearest_even n d
unfolding nearest_even
nearest-closest n d = go (compare (n % d * 2) d)
  where
    go : (o : Ordering) → nearest (n / d) o ≡ round_by o (n / d)
    go Ordering.lt = refl
    go Ordering.eq = refl
    go Ordering.gt = omega arith

pub nearest-same : (a b c d : ℕ) → 0 < b → 0 < d → a * d ≡ c * b → nearest_even a b ≡ nearest_even c d
nearest-same a b c d B D e = sym (nearest-closest a b) ∙ closest_same a b c d B D e ∙ nearest-closest c d

-- ---- an even whole number A, and n / d more or less
pub nearest-plus : (A n d : ℕ) → A % 2 ≡ 0 → 0 < d → nearest_even (A * d + n) d ≡ A + nearest_even n d
nearest-plus A n d E D = nearest-only (A * d + n) d (nearest_even (A * d + n) d) (A + nearest_even n d) D (nearest-is (A * d + n) d D) (moved (nearest_even n d) (nearest-is n d D))
  where
    moved : (r : ℕ) → IsNearest n d r → IsNearest (A * d + n) d (A + r)
    moved r p =
        let e = add-mul A r d in
        let a = p.not-above in
        let b = p.not-below in
        record {
          not-above = omega arith;
          not-below = omega arith;
          even-above = λ t. omega (arith, p.even-above (omega arith));
          even-below = λ t. omega (arith, p.even-below (omega arith));
        }

pub nearest-minus : (A n d : ℕ) → A % 2 ≡ 0 → 0 < d → n ≤ A * d → nearest_even (A * d - n) d ≡ A - nearest_even n d
nearest-minus A n d E D h =
    nearest-only (A * d - n) d (nearest_even (A * d - n) d) (A - nearest_even n d) D (nearest-is (A * d - n) d D) (moved (nearest_even n d) (nearest-le n d A D h) (nearest-is n d D))
  where
    moved : (r : ℕ) → r ≤ A → IsNearest n d r → IsNearest (A * d - n) d (A - r)
    moved r l p =
        let e : (A - r) * d ≡ A * d - r * d = rw (mul_comm (A - r) d, mul-sub d A r, mul_comm d A, mul_comm d r) in
        let k : r * d ≤ A * d = mul-le-mul_right d l in
        let a = p.not-above in
        let b = p.not-below in
        record {
          not-above = omega arith;
          not-below = omega arith;
          even-above = λ t. omega (arith, p.even-below (omega arith));
          even-below = λ t. omega (arith, p.even-above (omega arith));
        }
