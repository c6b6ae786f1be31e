-- How many of the oldest pending symbols the ways into the states before all live ones share: as many as the registers say. Two symbols
-- read off one slot are one exactly if their subsets are, for a symbol has its subset in its bits.
--   subset-of     a symbol's subset
--   agreed-most   the count; agreed-few, no more than is pending
use mathlib.Core.Path.{◌≡◌, sym, ap, ◌∙◌}
use mathlib.Core.Bool.{Bool}
use mathlib.Core.List.{List}
use Prim.Native.Nat.{ℕ, ◌+◌, ◌-◌, ◌/◌, ◌%◌, ◌≤◌, ◌<◌}
use native.Mathlib.Omega.{arith}
use lib.Dec.{T}
use lib.ListN.{length, get_or}
use Rattle.registers.specs.Registers.{subset_in, came_from, same_at, oldest}
use Rattle.registers.proofs.Oldest.{same_out, same_in, oldest-le, oldest-holds, oldest-most}
use Rattle.trellis.specs.Invariant.{Shares, Agreed}
use Rattle.wei.specs.State.{subset_of}
use Rattle.wei.specs.Symbol.{Symbol}
use Rattle.wei.proofs.Finite.{equal1}
use Rattle.nearest.specs.declared.Received.{Received}
use Rattle.trellis.specs.Measure.{Two}
use Rattle.machine.specs.declared.Core.{Core}
use Rattle.machine.specs.declared.Receiver.{Receiver}
use Rattle.picks.specs.Picks.{symbol_by, symbol_in}
use Rattle.machine.specs.Machine.{slot_of, age_of, pending_at, way_from, next_steps, agreed_of}
use Rattle.machine.proofs.Way.{way_same, same_way}

bits : (k : ℕ) → k < 8 → subset_of (k / 4 % 2) (k / 2 % 2) (k % 2) ≡ k
bits = equal1 8 (λ k. subset_of (k / 4 % 2) (k / 2 % 2) (k % 2)) (λ k. k) tt

subset-of : (u : ℕ) (picks : List ℕ) (i q j k : ℕ) → j < 8 → k < 8 → symbol_in u picks i q j ≡ symbol_in u picks i q k → j ≡ k
unfolding symbol_by
subset-of u picks i q j k g h e = sym (bits j g) ∙ ap (λ (c : Symbol). subset_of c.y0 c.i1 c.i2) e ∙ bits k h

-- `from s` is the state before the live state s; each of the sixteen steps is that of a live state
module _ (c : Core) (registers picks steps : List ℕ) (live : ℕ → Bool) (from : ℕ → ℕ) (long : length steps ≡ 16)
    (is : (s : ℕ) → s < 16 → T (live s) → from s ≡ came_from (get_or steps s 0))
    (of : (i : ℕ) → i < 16 → (s : ℕ) × (s < 16) × T (live s) × (from s ≡ came_from (get_or steps i 0))) where
  abbrev n : ℕ
  n = c.pending

  abbrev way : ℕ → List Symbol
  way s = way_from c registers picks (from s)

  abbrev k : ℕ
  k = oldest (same_at registers steps) c.pending

  -- the age of the j-th oldest
  one-age : (j : ℕ) → j < k → (i : ℕ) → i < 16 → subset_in registers (came_from (get_or steps i 0)) (n - 1 - j) ≡ subset_in registers (came_from (get_or steps 0 0)) (n - 1 - j)
  one-age j h i g =
      let q = n - 1 - j in
      let l = oldest-le (same_at registers steps) n in
      same_out registers (came_from (get_or steps 0 0)) q steps (oldest-holds (same_at registers steps) n q (omega arith) (omega arith)) i (omega arith)

  shared : Shares 16 live way k
  shared s t hs ht ls lt =
      way_same c registers picks (from s) (from t) k (oldest-le (same_at registers steps) n)
      (λ j h. ap (symbol_in c.accord.u picks (slot_of c j) (age_of c j))
      (ap (λ (r : ℕ). subset_in registers r (n - 1 - j)) (is s hs ls) ∙ one-age j h s hs ∙ sym (ap (λ (r : ℕ). subset_in registers r (n - 1 - j)) (is t ht lt) ∙ one-age j h t ht)))

  most : (m : ℕ) → m ≤ n → Shares 16 live way m → m ≤ k
  most m h sh = oldest-most (same_at registers steps) n m h (λ q g l. same_in registers (came_from (get_or steps 0 0)) q steps (λ i e. one q g l i (omega arith)))
    where
      one : (q : ℕ) → q < n → n ≤ m + q → (i : ℕ) → i < 16 → subset_in registers (came_from (get_or steps i 0)) q ≡ subset_in registers (came_from (get_or steps 0 0)) q
      one q g l i e =
          let (s, hs, ls, es) = of i e in
          let (t, ht, lt, et) = of 0 (omega arith) in
          let j = n - 1 - q in
          let back : n - 1 - j ≡ q = omega arith in
          let z : pending_at c registers picks (from s) j ≡ pending_at c registers picks (from t) j = same_way c registers picks (from s) (from t) m h (sh s t hs ht ls lt) j (omega arith) in
          let w : subset_in registers (from s) (n - 1 - j) ≡ subset_in registers (from t) (n - 1 - j) =
          subset-of c.accord.u picks (slot_of c j) (age_of c j) (subset_in registers (from s) (n - 1 - j)) (subset_in registers (from t) (n - 1 - j)) (omega arith) (omega arith) z in
          ap (λ (r : ℕ). subset_in registers r q) (sym es) ∙ ap (subset_in registers (from s)) (sym back) ∙ w ∙ ap (subset_in registers (from t)) back ∙ ap (λ (r : ℕ). subset_in registers r q) et

  pub agreed-most : Agreed 16 live (λ s. way_from c registers picks (from s)) c.pending (oldest (same_at registers steps) c.pending)
  agreed-most = record { few = oldest-le (same_at registers steps) n; shared = shared; most = most }

-- no more is agreed than is pending
pub agreed-few : (rx : Receiver) (y : Two Received) → agreed_of rx y ≤ rx.core.pending
unfolding agreed_of
agreed-few rx y = oldest-le (same_at rx.registers (next_steps rx y)) rx.core.pending
