-- A clean line: every received symbol lies on the symbol that was sent. All lists here stand in the order of time. What follows for
-- the answer is proved in proofs/Clean.
--   Hits M xs cs   the received xs lie on the symbols cs, one for one
--   Exact u M x    the received x lies on one valid symbol at most
use Rattle.std.specs.Prelude.{◌≡◌, List, [], ◌∷◌, ℕ}
use Rattle.trellis.specs.Measure.{Measure}
use Rattle.wei.specs.Symbol.{Symbol, Valid}

abbrev pub Hits : (M : Measure) → List M.Heard → List Symbol → Type 0
Hits M [] [] = Unit {0}
Hits M [] (c ∷ cs) = ⊥
Hits M (x ∷ xs) [] = ⊥
Hits M (x ∷ xs) (c ∷ cs) = (M.far x c ≡ 0) × Hits M xs cs

abbrev pub Exact : ℕ → (M : Measure) → M.Heard → Type 0
Exact u M x = (c d : Symbol) → Valid u c → Valid u d → M.far x c ≡ 0 → M.far x d ≡ 0 → c ≡ d
