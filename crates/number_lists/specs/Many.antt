-- The numbers that a list of tokens writes, read into a list that is lent: once over what a token writes. Definitions only.
--   whole_in t, number_in t, wide_in t   the number that the token t writes, if it writes one: a whole number, one of 0 to 4294967295, or
--                           one of 0 to 18446744073709551615
--   first_of p room ts       what the tokens ts write by p, up to the first that writes nothing, and no more than there is room for
--   many_of p room ts        how many they write, if every one writes something and there is room for all
--   Lists p s list r list'  r is that of the tokens of s, with as much room as list has; list' has the first numbers at its start and
--                           is list elsewhere
use Rattle.std.specs.Prelude.{ℕ, zero, suc, ◌+◌, ◌≡◌, Option, Some, None, List, [], ◌∷◌, ◌++◌, length, drop, ℤ}
use Rattle.text.specs.Token.{tokens}
use Rattle.text.specs.Number.{whole_of, number_of}

abbrev pub whole_in : List ℕ → Option ℤ
whole_in t = whole_of t

abbrev pub number_in : List ℕ → Option ℕ
number_in t = number_of 10 4294967295 t

abbrev pub wide_in : List ℕ → Option ℕ
wide_in t = number_of 10 18446744073709551615 t

abbrev pub before : {A : Type 0} → Option A → List A → List A
before (Some z) zs = z ∷ zs
before None zs = []

abbrev pub first_of : {A : Type 0} → (List ℕ → Option A) → ℕ → List (List ℕ) → List A
first_of p room [] = []
first_of p zero (t ∷ ts) = []
first_of p (suc room) (t ∷ ts) = before (p t) (first_of p room ts)

-- k more
abbrev pub more : ℕ → Option ℕ → Option ℕ
more k (Some n) = Some (k + n)
more k None = None

abbrev pub one_more : {A : Type 0} → Option A → Option ℕ → Option ℕ
one_more (Some z) m = more 1 m
one_more None m = None

abbrev pub many_of : {A : Type 0} → (List ℕ → Option A) → ℕ → List (List ℕ) → Option ℕ
many_of p room [] = Some 0
many_of p zero (t ∷ ts) = None
many_of p (suc room) (t ∷ ts) = one_more (p t) (many_of p room ts)

pub record Lists {A : Type 0} (p : List ℕ → Option A) (s : List ℕ) (list : List A) (r : Option ℕ) (list' : List A) : Type 0 where
  pub answer : r ≡ many_of p (length list) (tokens s)
  pub filled : list' ≡ first_of p (length list) (tokens s) ++ drop (length (first_of p (length list) (tokens s))) list
