-- A line that carries what was sent: every received symbol is closest to the symbol sent in its place. All lists here stand in the order
-- of time. What follows for the answer is proved in proofs/Closest.
--   Along R xs cs     R holds of each of the received xs and the one of cs in its place, one for one
--   Closest u M x c   every valid symbol other than c is further from the received x than c is
use Rattle.std.specs.Prelude.{◌≡◌, List, [], ◌∷◌, ℕ, ◌<◌}
use Rattle.trellis.specs.Measure.{Measure}
use Rattle.wei.specs.Symbol.{Symbol, Valid}

abbrev pub Along : {A B : Type 0} → (A → B → Type 0) → List A → List B → Type 0
Along R [] [] = Unit {0}
Along R [] (c ∷ cs) = ⊥
Along R (x ∷ xs) [] = ⊥
Along R (x ∷ xs) (c ∷ cs) = R x c × Along R xs cs

abbrev pub Closest : ℕ → (M : Measure) → M.Heard → Symbol → Type 0
Closest u M x c = (d : Symbol) → Valid u d → (d ≡ c → ⊥) → M.far x c < M.far x d
