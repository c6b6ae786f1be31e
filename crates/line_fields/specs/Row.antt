-- The marks that a token writes: "MARKS a row of digits 0 to 3, one for each symbol, or `-` for none (at most 1,024)". Definitions only.
--   is_mark b              the byte b writes a mark: '0' is 48, '3' is 51
--   all_marks t            every byte of t does
--   marks_of t             the marks that the bytes of t write
--   is_row room t          t is a row of marks, and there is room for them
--   row_of room t          the marks that t writes, if it writes any
--   count_of, mark_fills    how many they are; the list lent for marks after that: the marks at its start, and the list as it was elsewhere
--   Row t list r list'    r is that count, and list' that list
use Rattle.std.specs.Prelude.{ℕ, ◌-◌, ◌≡◌, Bool, true, false, cond, Option, Some, None, List, [], ◌∷◌, ◌++◌, leb, length, drop}
use Rattle.text.specs.Bytes.{bytes}
use Rattle.text.specs.Token.{same_bytes}

unfoldable pub is_mark : ℕ → Bool
is_mark b = cond (leb 48 b) (leb b 51) false

abbrev pub all_marks : List ℕ → Bool
all_marks [] = true
all_marks (b ∷ t) = cond (is_mark b) (all_marks t) false

abbrev pub marks_of : List ℕ → List ℕ
marks_of [] = []
marks_of (b ∷ t) = (b - 48) ∷ marks_of t

unfoldable pub is_row : ℕ → List ℕ → Bool
is_row room t = cond (leb 1 (length t)) (cond (leb (length t) 1024) (cond (leb (length t) room) (all_marks t) false) false) false

unfoldable pub row_of : ℕ → List ℕ → Option (List ℕ)
row_of room t = cond (same_bytes t (bytes "-")) (Some []) (cond (is_row room t) (Some (marks_of t)) None)

abbrev pub count_of : Option (List ℕ) → Option ℕ
count_of (Some ms) = Some (length ms)
count_of None = None

abbrev pub mark_fills : Option (List ℕ) → List ℕ → List ℕ
mark_fills (Some ms) list = ms ++ drop (length ms) list
mark_fills None list = list

pub record Row (t list : List ℕ) (r : Option ℕ) (list' : List ℕ) : Type 0 where
  pub count : r ≡ count_of (row_of (length list) t)
  pub filled : list' ≡ mark_fills (row_of (length list) t) list
