-- What putting text into a page means. Definitions only; proofs/Pages.antt shows that each allows one result alone.
--   Puts page at text r page'      page' has text from at on and is page elsewhere; r is the place after it
--   Numeral n text                 text is the decimal digits of n, as few as hold it
--   PutsNumber page at n r page'   a numeral of n is put there, of twenty digits at most
--   sign_text x                     a minus if x is below 0, else nothing
--   PutsWhole page at x r page'    the sign of x and then a numeral of its absolute value
use Rattle.std.specs.Prelude.{ℕ, ◌+◌, ◌≤◌, ◌≡◌, List, [], ◌∷◌, ◌++◌, length, take, drop, ℤ, pos, negsuc, nat_abs}
use Rattle.io.specs.Digits.{last_digits, IsDigitCount}

pub record Puts (page : List ℕ) (at : ℕ) (text : List ℕ) (r : ℕ) (page' : List ℕ) : Type 0 where
  pub next : r ≡ at + length text
  pub said : page' ≡ take at page ++ text ++ drop r page

pub record Numeral (n : ℕ) (text : List ℕ) : Type 0 where
  pub fewest : IsDigitCount 10 1 n (length text)
  pub spelt : text ≡ last_digits 10 (length text) n

pub record PutsNumber (page : List ℕ) (at n r : ℕ) (page' : List ℕ) : Type 0 where
  pub text : List ℕ
  pub numeral : Numeral n text
  pub puts : Puts page at text r page'
  pub near : r ≤ at + 20

abbrev pub sign_text : ℤ → List ℕ
sign_text (pos n) = []
sign_text (negsuc n) = 45 ∷ []

pub record PutsWhole (page : List ℕ) (at : ℕ) (x : ℤ) (r : ℕ) (page' : List ℕ) : Type 0 where
  pub text : List ℕ
  pub numeral : Numeral (nat_abs x) text
  pub puts : Puts page at (sign_text x ++ text) r page'
  pub near : r ≤ at + 21
