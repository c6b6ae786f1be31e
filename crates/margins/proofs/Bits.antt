-- Tests over bits and states, and the fact at each: state the test, give `tt`, and take it where it is wanted.
--   bits3, bits4      a test of three bits, of four; at-bits3, at-bits4
--   states            a test of two states; at-states
use mathlib.Core.Bool.{Bool}
use Prim.Native.Nat.{ℕ, ◌<◌}
use lib.Dec.{T}
use Rattle.wei.proofs.Finite.{upto, at}

abbrev pub bits3 : (ℕ → ℕ → ℕ → Bool) → Bool
bits3 f = upto 2 (λ i. upto 2 (λ j. upto 2 (f i j)))

abbrev pub bits4 : (ℕ → ℕ → ℕ → ℕ → Bool) → Bool
bits4 f = upto 2 (λ h. bits3 (f h))

abbrev pub states : (ℕ → ℕ → Bool) → Bool
states f = upto 16 (λ s. upto 16 (f s))

pub at-bits3 : (f : ℕ → ℕ → ℕ → Bool) → T (bits3 f) → (i j k : ℕ) → i < 2 → j < 2 → k < 2 → T (f i j k)
at-bits3 f t i j k a b c = at 2 (f i j) (at 2 (λ j. upto 2 (f i j)) (at 2 (λ i. upto 2 (λ j. upto 2 (f i j))) t i a) j b) k c

pub at-bits4 : (f : ℕ → ℕ → ℕ → ℕ → Bool) → T (bits4 f) → (h i j k : ℕ) → h < 2 → i < 2 → j < 2 → k < 2 → T (f h i j k)
at-bits4 f t h i j k a = at-bits3 (f h) (at 2 (λ h. bits3 (f h)) t h a) i j k

pub at-states : (f : ℕ → ℕ → Bool) → T (states f) → (s t : ℕ) → s < 16 → t < 16 → T (f s t)
at-states f e s t a b = at 16 (f s) (at 16 (λ s. upto 16 (f s)) e s a) t b
