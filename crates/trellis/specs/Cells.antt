-- What a machine finds by add, compare and select from a row of sums, one for each state. The sums may all be the true ones less the
-- same m.
--   acs S y row s      the new sum of s with the state before it, by add, compare, select from the row of sums
--   Cell C             the state before and the symbol between
--   cell S y row s     the cell that add, compare, select gives
--   end-state S row    the state with the least sum, the smallest of equals
--   Off S ys m row     the row is that of the true sums less m, at each state below N
use Rattle.std.specs.Prelude.{◌≡◌, List, ℕ, zero, ◌<◌}
use Rattle.trellis.specs.Code.{Code}
use Rattle.trellis.specs.Best.{Surv}
use Rattle.trellis.specs.Choose.{choose, raise, tag, bare, state_of}
use Rattle.trellis.specs.Search.{Search, range, surv}

pub record Cell (C : Type 0) : Type 0 where
  pub prev : ℕ
  pub symbol : C

module _ {K : Code} (S : Search K) where
  open K use {Y, C, N, dist}
  open S use {preds, pick}

  unfoldable pub acs : {P : Type 0} → Y → (ℕ → Surv P) → ℕ → Surv ℕ
  acs y row s = choose (λ t. tag t (raise (dist y (pick y t s)) (row t))) (preds s)

  unfoldable pub cell : {P : Type 0} → Y → (ℕ → Surv P) → ℕ → Cell C
  cell y row s = let t = state_of (acs y row s) in record { prev = t; symbol = pick y t s }

  unfoldable pub end-state : {P : Type 0} → (ℕ → Surv P) → ℕ
  end-state row = state_of (choose (λ s. tag s (row s)) (range zero N))

  abbrev pub Off : List Y → ℕ → (ℕ → Surv (Unit {0})) → Type 0
  Off ys m row = (s : ℕ) → s < N → bare (surv S ys s) ≡ raise m (row s)
