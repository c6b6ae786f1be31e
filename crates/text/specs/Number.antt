-- The numbers that a token writes. Definitions only; they speak of unbounded numbers, and say where a token is refused.
--   digit_of b            the worth of a byte as a digit, 0 to 15, small and large letters alike, if it is one
--   is_below base d       whether d is a digit of this base; a byte that is no digit counts as 16, which no base in use has
--   only_digits base s    whether every byte of s is a digit of this base
--   value base n s       the number written by n and then the digits s
--   number_of base most s the number that s writes, if s is digits only, one or more, and the number is at most most
--   whole_of s            the whole number from -2147483648 to 2147483647 that s writes, one `-` before it or none
--   hex_of s              the number that s writes in exactly eight hexadecimal digits
use Rattle.std.specs.Prelude.{ℕ, ◌+◌, ◌-◌, ◌*◌, Bool, true, false, cond, Option, Some, None, unwrap_or, option_map, List, [], ◌∷◌, leb, ltb, eqb, length, ℤ, pos, neg_ℤ}

-- b - low + first where low ≤ b ≤ high
abbrev pub between : ℕ → ℕ → ℕ → ℕ → Option ℕ → Option ℕ
between low high first b other = cond (leb low b) (cond (leb b high) (Some (b - low + first)) other) other

-- '0' is 48, '9' 57; 'A' 65, 'F' 70; 'a' 97, 'f' 102
unfoldable pub digit_of : ℕ → Option ℕ
digit_of b = between 48 57 0 b (between 65 70 10 b (between 97 102 10 b None))

abbrev pub is_below : ℕ → Option ℕ → Bool
is_below base (Some d) = ltb d base
is_below base None = ltb 16 base

abbrev pub only_digits : ℕ → List ℕ → Bool
only_digits base [] = true
only_digits base (b ∷ s) = cond (is_below base (digit_of b)) (only_digits base s) false

abbrev pub value : ℕ → ℕ → List ℕ → ℕ
value base n [] = n
value base n (b ∷ s) = value base (n * base + unwrap_or (digit_of b) 16) s

unfoldable pub number_of : ℕ → ℕ → List ℕ → Option ℕ
number_of base most s =
    cond (leb 1 (length s))
    (cond (only_digits base s) (cond (leb (value base 0 s) most) (Some (value base 0 s)) None) None)
    None

unfoldable pub hex_of : List ℕ → Option ℕ
unfolding number_of
hex_of s = cond (eqb (length s) 8) (number_of 16 4294967295 s) None

-- '-' is 45
unfoldable pub whole_of : List ℕ → Option ℤ
unfolding number_of
whole_of [] = None
whole_of (b ∷ s) = cond (eqb b 45) (option_map (λ n. neg_ℤ (pos n)) (number_of 10 2147483648 s)) (option_map pos (number_of 10 2147483647 (b ∷ s)))
