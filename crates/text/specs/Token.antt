-- Tokens of a line: "Tokens are separated by one space", so a line is its tokens with one space between each two. Definitions only.
--   tokens s          the tokens of s, in order: one more than s has spaces; two spaces in a row, or one at an end, make an empty token
--   length_before c s  how many bytes of s stand before the first c, or all; for a space, the length of the first token
--   Cuts c s r        r is that length, which is at most the whole and so counts the bytes before
--   same_bytes a b     whether a and b are the same
use Rattle.std.specs.Prelude.{ℕ, suc, ◌≤◌, ◌≡◌, Bool, true, false, cond, List, [], ◌∷◌, eqb, length, take}

-- b put in front of the first token
abbrev pub in_front : ℕ → List (List ℕ) → List (List ℕ)
in_front b [] = (b ∷ []) ∷ []
in_front b (t ∷ ts) = (b ∷ t) ∷ ts

abbrev pub tokens : List ℕ → List (List ℕ)
tokens [] = [] ∷ []
tokens (b ∷ s) = cond (eqb b 32) ([] ∷ tokens s) (in_front b (tokens s))

abbrev pub length_before : ℕ → List ℕ → ℕ
length_before c [] = 0
length_before c (b ∷ s) = cond (eqb b c) 0 (suc (length_before c s))

-- the other parts follow from the first; they are stated so that a caller that lends `&s[..r]` finds them
pub record Cuts (c : ℕ) (s : List ℕ) (r : ℕ) : Type 0 where
  pub is : r ≡ length_before c s
  pub within : r ≤ length s
  pub count : r ≡ length (take r s)

abbrev pub same_bytes : List ℕ → List ℕ → Bool
same_bytes [] [] = true
same_bytes [] (c ∷ t) = false
same_bytes (b ∷ s) [] = false
same_bytes (b ∷ s) (c ∷ t) = cond (eqb b c) (same_bytes s t) false
