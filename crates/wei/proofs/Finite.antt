-- Facts about all numbers below a bound, by a test that the checker computes: state the test, give `tt`, and take the fact at each
-- number. `upto` is the test, `at` and `equal1` to `equal4` carry it to the numbers.
use mathlib.Core.Path.{◌≡◌, subst}
use mathlib.Core.Bool.{Bool, true, false, ◌&&◌}
use Prim.Native.Nat.{ℕ, zero, suc, ◌<◌}
use native.Mathlib.Nat.{not-suc-le-zero}
use native.Mathlib.Decide.{dec_lt}
use native.Mathlib.Omega.{arith}
use lib.Dec.{T, eqb, eqb→eq}

-- both halves of a test
pub and_left : (a b : Bool) → T (a && b) → T a
and_left true b t = tt
and_left false b t = absurd t

pub and_right : (a b : Bool) → T (a && b) → T b
and_right true b t = t
and_right false b t = absurd t

-- f at each number below n
abbrev pub upto : ℕ → (ℕ → Bool) → Bool
upto zero f = true
upto (suc n) f = f n && upto n f

pub at : (n : ℕ) (f : ℕ → Bool) → T (upto n f) → (k : ℕ) → k < n → T (f k)
at zero f t k h = absurd (not-suc-le-zero h)
at (suc n) f t k h = go (at n f (and_right (f n) (upto n f) t) k) (dec_lt k n)
  where
    go : (k < n → T (f k)) → Dec (k < n) → T (f k)
    go r (yes l) = r l
    go r (no g) = let e : n ≡ k = omega arith in subst (λ (m : ℕ). T (f m)) e (and_left (f n) (upto n f) t)

-- two functions agree below the bounds
abbrev pub Same1 : ℕ → (ℕ → ℕ) → (ℕ → ℕ) → Bool
Same1 n f g = upto n (λ a. eqb (f a) (g a))

abbrev pub Same2 : ℕ → ℕ → (ℕ → ℕ → ℕ) → (ℕ → ℕ → ℕ) → Bool
Same2 n m f g = upto n (λ a. Same1 m (f a) (g a))

abbrev pub Same3 : ℕ → ℕ → ℕ → (ℕ → ℕ → ℕ → ℕ) → (ℕ → ℕ → ℕ → ℕ) → Bool
Same3 n m l f g = upto n (λ a. Same2 m l (f a) (g a))

abbrev pub Same4 : ℕ → ℕ → ℕ → ℕ → (ℕ → ℕ → ℕ → ℕ → ℕ) → (ℕ → ℕ → ℕ → ℕ → ℕ) → Bool
Same4 n m l o f g = upto n (λ a. Same3 m l o (f a) (g a))

pub equal1 : (n : ℕ) (f g : ℕ → ℕ) → T (Same1 n f g) → (a : ℕ) → a < n → f a ≡ g a
equal1 n f g t a h = eqb→eq (f a) (g a) (at n (λ a. eqb (f a) (g a)) t a h)

pub equal2 : (n m : ℕ) (f g : ℕ → ℕ → ℕ) → T (Same2 n m f g) → (a b : ℕ) → a < n → b < m → f a b ≡ g a b
equal2 n m f g t a b ha = equal1 m (f a) (g a) (at n (λ a. Same1 m (f a) (g a)) t a ha) b

pub equal3 : (n m l : ℕ) (f g : ℕ → ℕ → ℕ → ℕ) → T (Same3 n m l f g) → (a b c : ℕ) → a < n → b < m → c < l → f a b c ≡ g a b c
equal3 n m l f g t a b c ha = equal2 m l (f a) (g a) (at n (λ a. Same2 m l (f a) (g a)) t a ha) b c

pub equal4 : (n m l o : ℕ) (f g : ℕ → ℕ → ℕ → ℕ → ℕ) → T (Same4 n m l o f g) → (a b c d : ℕ) → a < n → b < m → c < l → d < o → f a b c d ≡ g a b c d
equal4 n m l o f g t a b c d ha = equal3 m l o (f a) (g a) (at n (λ a. Same3 m l o (f a) (g a)) t a ha) b c d
