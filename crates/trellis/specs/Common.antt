-- The longest common beginning, computed: of two lists, of several, and of the symbols of the best sequences into all reached
-- states. proofs/Theorems.antt (T4) says that it is the `Longest` of specs/Best, and that nothing else is.
--   lcp same l m    the longest common beginning of two lists
--   lcps same ls    of several
--   live f l        the symbols of what f has at the listed states
--   common S ys     of the best sequences for ys: the symbols that are final
--   reach S ys      how many they are
use Rattle.std.specs.Prelude.{◌≡◌, List, [], ◌∷◌, ℕ, zero, length}
use Rattle.trellis.specs.Code.{Code, Path, symbols}
use Rattle.trellis.specs.Best.{Surv, absent, alive}
use Rattle.trellis.specs.Search.{Search, range, surv}

module _ {C : Type 0} where
  -- one symbol more where the two are the same, else nothing more
  abbrev pub lcp-at : {A : Type 0} → Dec A → C → List C → List C
  lcp-at (yes e) a r = a ∷ r
  lcp-at (no e) a r = []

  unfoldable pub lcp : ((a b : C) → Dec (a ≡ b)) → List C → List C → List C
  lcp same [] m = []
  lcp same (a ∷ l) [] = []
  lcp same (a ∷ l) (b ∷ m) = lcp-at (same a b) a (lcp same l m)

  unfoldable pub lcps : ((a b : C) → Dec (a ≡ b)) → List (List C) → List C
  lcps same [] = []
  lcps same (l ∷ []) = l
  lcps same (l ∷ m ∷ ms) = lcp same l (lcps same (m ∷ ms))

  abbrev pub add-live : Surv (Path C) → List (List C) → List (List C)
  add-live absent ls = ls
  add-live (alive w p) ls = symbols p ∷ ls

  unfoldable pub live : (ℕ → Surv (Path C)) → List ℕ → List (List C)
  live f [] = []
  live f (x ∷ xs) = add-live (f x) (live f xs)

module _ {K : Code} (S : Search K) where
  open K use {Y, C, N}
  open S use {same}

  unfoldable pub common : List Y → List C
  common ys = lcps same (live (surv S ys) (range zero N))

  unfoldable pub reach : List Y → ℕ
  reach ys = length (common ys)
