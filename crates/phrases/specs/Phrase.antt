-- What each part of an answer says, byte by byte. Definitions only; proofs/Phrases.antt has what follows of them.
--   decimal n         "Words are decimal": the digits of n, as few as hold it; twenty hold every number of 64 bits
--   whole z           a minus if z is below 0, then the digits
--   after_spaces ts    each text "after a space"
--   place_text p       "` place P`"
--   reason_text r      "`N`, for a 5 also ` place P`"
--   said_of f xs       "if any were written ` :` and each after a space", f being what one of them says
--   said_text ws       "if words were written ` :` and each word after a space"
--   said_wholes zs     the same of coordinates
--   words_room n       what n words take at most: a space and twenty digits each
--   wholes_room n      what n whole numbers take at most: a space, a minus and twenty digits each
use Rattle.std.specs.Prelude.{ℕ, zero, suc, ◌+◌, ◌*◌, ◌/◌, ◌%◌, cond, List, [], ◌∷◌, ◌++◌, map, eqb, ltb, ℤ, nat_abs}
use Rattle.text.specs.Bytes.{bytes}
use Rattle.page.specs.Page.{sign_text}
use Rattle.reasons.specs.Reason.{Reason}

-- '0' is 48
abbrev pub decimal_in : ℕ → ℕ → List ℕ
decimal_in zero n = []
decimal_in (suc k) n = cond (ltb n 10) [] (decimal_in k (n / 10)) ++ (48 + n % 10) ∷ []

unfoldable pub decimal : ℕ → List ℕ
decimal n = decimal_in 20 n

unfoldable pub whole : ℤ → List ℕ
whole z = sign_text z ++ decimal (nat_abs z)

abbrev pub after_spaces : List (List ℕ) → List ℕ
after_spaces [] = []
after_spaces (t ∷ ts) = bytes " " ++ t ++ after_spaces ts

abbrev pub place_text : ℕ → List ℕ
place_text p = bytes " place " ++ decimal p

unfoldable pub reason_text : Reason → List ℕ
reason_text r = decimal r.number ++ cond (eqb r.number 5) (place_text r.place) []

abbrev pub said_of : {A : Type 0} → (A → List ℕ) → List A → List ℕ
said_of f [] = []
said_of f (x ∷ xs) = bytes " :" ++ after_spaces (map f (x ∷ xs))

unfoldable pub said_text : List ℕ → List ℕ
said_text ws = said_of decimal ws

unfoldable pub said_wholes : List ℤ → List ℕ
said_wholes zs = said_of whole zs

abbrev pub wholes_room : ℕ → ℕ
wholes_room n = n * 22

abbrev pub words_room : ℕ → ℕ
words_room n = n * 21
