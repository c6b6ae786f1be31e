-- The smallest number at which a function is least, of 0 to n.
--   IsLeast f n m   m is that number
--   least-is        `least` finds it
use mathlib.Core.Path.{◌≡◌, refl, ap}
use mathlib.Core.Bool.{Bool, true, false}
use Prim.Native.Nat.{ℕ, zero, suc, ◌≤◌, ◌<◌}
use native.Mathlib.Omega.{arith}
use native.Mathlib.Decide.{ℕ_discrete}
use lib.Dec.{ltb}
use borrow.Author.Tests.{ltb-true, ltb-false}
use Rattle.trellis.specs.Pick.{keep_n, least}

pub record IsLeast (f : ℕ → ℕ) (n m : ℕ) : Type 0 where
  pub low : m ≤ n
  pub is-least : (w : ℕ) → w ≤ n → f m ≤ f w
  pub is-first : (w : ℕ) → w ≤ n → f m ≡ f w → m ≤ w

module _ (f : ℕ → ℕ) where
  one : IsLeast f 0 0
  one = record { low = omega arith; is-least = λ w h. omega (arith, ap f (let e : w ≡ 0 = omega arith in e)); is-first = λ w h e. omega arith }

  -- one number more is less than the least so far, or it is not
  module _ (n m : ℕ) (k : IsLeast f n m) where
    new : f (suc n) < f m → IsLeast f (suc n) (suc n)
    new l = record { low = omega arith; is-least = λ w h. below w h (ℕ_discrete w (suc n)); is-first = λ w h e. first w h e (ℕ_discrete w (suc n)) }
      where
        below : (w : ℕ) → w ≤ suc n → Dec (w ≡ suc n) → f (suc n) ≤ f w
        below w h (yes e) = omega (arith, ap f e)
        below w h (no e) = omega (arith, k.is-least w (omega arith))

        first : (w : ℕ) → w ≤ suc n → f (suc n) ≡ f w → Dec (w ≡ suc n) → suc n ≤ w
        first w h z (yes e) = omega arith
        first w h z (no e) = absurd (omega (arith, k.is-least w (omega arith)))

    old : f m ≤ f (suc n) → IsLeast f (suc n) m
    old l = record { low = omega (arith, k.low); is-least = λ w h. below w h (ℕ_discrete w (suc n)); is-first = λ w h e. first w h e (ℕ_discrete w (suc n)) }
      where
        below : (w : ℕ) → w ≤ suc n → Dec (w ≡ suc n) → f m ≤ f w
        below w h (yes e) = omega (arith, ap f e)
        below w h (no e) = k.is-least w (omega arith)

        first : (w : ℕ) → w ≤ suc n → f m ≡ f w → Dec (w ≡ suc n) → m ≤ w
        first w h z (yes e) = omega (arith, k.low)
        first w h z (no e) = k.is-first w (omega arith) z

    more : (b : Bool) → ltb (f (suc n)) (f m) ≡ b → IsLeast f (suc n) (keep_n b m (suc n))
    more true e = new (ltb-true (f (suc n)) (f m) e)
    more false e = old (ltb-false (f (suc n)) (f m) e)

  pub least-is : (n : ℕ) → IsLeast f n (least f n)
  unfolding least
  least-is zero = one
  least-is (suc n) = more n (least f n) (least-is n) (ltb (f (suc n)) (f (least f n))) refl
