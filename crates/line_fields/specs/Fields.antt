-- Fields of a text that stand one after another, each of so many tokens, once over what a token writes. Definitions only.
--   tokens_at s at     the tokens of s from the place `at` on; none past its end
--   Field             what some tokens write, and the tokens after them
--   field_of p n ts    the field of the first n of the tokens ts, if there are so many and each writes something by p
--   field_in s list r  the field that an answer r names, where the list holds what was read
--   Gives ..          the answer and the list are those of the field of n tokens from the place `at` on
use Rattle.std.specs.Prelude.{ℕ, zero, suc, ◌≡◌, cond, Option, Some, None, List, [], ◌∷◌, leb, length, drop}
use Rattle.text.specs.Token.{tokens}

abbrev pub tokens_at : List ℕ → ℕ → List (List ℕ)
tokens_at s at = cond (leb at (length s)) (tokens (drop at s)) []

pub record Field (A : Type 0) : Type 0 where
  pub values : List A
  pub rest : List (List ℕ)

-- one number more in front
abbrev pub with_first : {A : Type 0} → Option A → Option (Field A) → Option (Field A)
with_first (Some x) (Some f) = Some (record { values = x ∷ f.values; rest = f.rest })
with_first (Some x) None = None
with_first None f = None

abbrev pub field_of : {A : Type 0} → (List ℕ → Option A) → ℕ → List (List ℕ) → Option (Field A)
field_of p zero ts = Some (record { values = []; rest = ts })
field_of p (suc n) [] = None
field_of p (suc n) (t ∷ ts) = with_first (p t) (field_of p n ts)

abbrev pub field_in : {A : Type 0} → List ℕ → List A → Option ℕ → Option (Field A)
field_in s list (Some at) = Some (record { values = list; rest = tokens_at s at })
field_in s list None = None

-- the list keeps its length
pub record Gives {A : Type 0} (p : List ℕ → Option A) (s : List ℕ) (at n : ℕ) (r : Option ℕ) (list : List A) : Type 0 where
  pub field : field_in s list r ≡ field_of p n (tokens_at s at)
  pub long : length list ≡ n
