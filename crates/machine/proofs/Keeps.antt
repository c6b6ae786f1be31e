-- What the receiver's record is after any list of symbols, field by field, in the words of the theory; and that a fresh one is so
-- before any symbol.
--   Keeps ac b ys rx  rx is the record of the accord ac and the start b after the symbols ys, newest first
--   keeps-start       a fresh receiver, before any symbol
use mathlib.Core.Path.{◌≡◌, refl, sym, ap, ◌∙◌}
use mathlib.Core.Bool.{Bool, true, false, cond}
use mathlib.Core.List.{List, [], ◌∷◌}
use Prim.Native.Nat.{ℕ, ◌≤◌, ◌<◌}
use native.Mathlib.Omega.{arith}
use lib.Dec.{eqb}
use borrow.Author.Tests.{eq-eqb}
use lib.ListN.{length, get_or, replicate, length-replicate}
use Rattle.trellis.specs.Choose.{bare, raise}
use Rattle.trellis.specs.Search.{first, range, surv}
use Rattle.trellis.specs.Common.{common, reach}
use Rattle.trellis.specs.Cells.{Off}
use Rattle.trellis.specs.Invariant.{Holds}
use Rattle.trellis.specs.Measure.{Start, free, named, GoodStart, Two}
use Rattle.trellis.specs.Speak.{after, carried}
use Rattle.trellis.specs.Words.{turn_after, first_turn}
use Rattle.trellis.proofs.Common.{reach-le}
use Rattle.trellis.proofs.Invariant.{holds-start}
use Rattle.wei.specs.Symbol.{Symbol}
use Rattle.nearest.specs.declared.Received.{Received}
use Rattle.machine.specs.declared.Receiver.{Receiver}
use Rattle.select.specs.Select.{limit, row_of}
use Rattle.machine.specs.Machine.{core, fresh_sums, opened, way_from}
use Rattle.select.proofs.Lists.{sixteen-at, sixteen-most}
use Rattle.receiver_meaning.proofs.Search.{search_of, laws}
use Rattle.machine.proofs.Arrivals.{sealed}
use Rattle.machine.proofs.Bounds.{Lowest}
use Rattle.points.specs.declared.Accord.{Accord}

pub record Keeps (ac : Accord) (b : Start) (ys : List (Two Received)) (rx : Receiver) : Type 0 where
  pub is_live : rx.live ≡ true
  pub accord : rx.core.accord ≡ ac
  -- the turn after what is released
  pub turn : rx.core.turn ≡ carried (search_of ac b) turn_after (first_turn b) ys
  -- the sums and the pending symbols on the way into each state are the theory's
  pub holds : Holds (search_of ac b) ys (row_of rx.sums) (way_from rx.core rx.registers rx.picks) rx.core.pending
  pub slot-below : rx.core.slot < 64
  pub pending-fits : rx.core.pending ≤ 64
  pub sums-long : length rx.sums ≡ 16
  pub registers-long : length rx.registers ≡ 48
  pub picks-long : length rx.picks ≡ 72
  -- some state keeps 0, and none more than one that nothing reaches
  pub low : Lowest rx.sums
  pub top : (s : ℕ) → get_or rx.sums s 0 ≤ limit

-- ── a fresh receiver ──
module _ (ac : Accord) where
  off-start : (b : Start) → Off (search_of ac b) [] 0 (row_of (fresh_sums b))
  unfolding surv fresh_sums
  off-start free s h = sym (ap (λ (v : ℕ). raise 0 (sealed v tt)) (sixteen-at (λ t. 0) s h))
  off-start (named n) s h = sym (ap (λ (v : ℕ). raise 0 (sealed v tt)) (sixteen-at (λ t. cond (eqb t n) 0 limit) s h) ∙ go (eqb s n))
    where
      go : (c : Bool) → raise 0 (sealed (cond c 0 limit) tt) ≡ bare (first {C = Symbol} c s)
      go true = refl
      go false = refl

  turn-start : (b : Start) → first_turn b ≡ carried (search_of ac b) turn_after (first_turn b) []
  unfolding carried after reach
  turn-start b = ap (after turn_after (first_turn b)) (sym (none (common (search_of ac b) []) (reach-le (search_of ac b) (laws ac b) [])))
    where
      none : (l : List Symbol) → length l ≤ 0 → l ≡ []
      none [] h = refl
      none (c ∷ l) h = absurd (omega arith)

  low-start : (b : Start) → GoodStart b → Lowest (fresh_sums b)
  unfolding fresh_sums
  low-start free g = record { state = 0; below = omega arith; is-least = refl }
  low-start (named n) g = record { state = n; below = g; is-least = sixteen-at (λ s. cond (eqb s n) 0 limit) n g ∙ rw (eq-eqb n n refl) }

  top_start : (b : Start) (s : ℕ) → get_or (fresh_sums b) s 0 ≤ limit
  unfolding fresh_sums
  top_start free = sixteen-most (λ s. 0) limit (λ s. omega arith)
  top_start (named n) = sixteen-most (λ s. cond (eqb s n) 0 limit) limit (λ s. go (eqb s n))
    where
      go : (c : Bool) → cond c 0 limit ≤ limit
      go true = omega arith
      go false = omega arith

  sums-start : (b : Start) → length (fresh_sums b) ≡ 16
  unfolding fresh_sums
  sums-start free = refl
  sums-start (named n) = refl

  pub keeps-start : (window : ℕ) (b : Start) → GoodStart b → Keeps ac b [] (opened ac window b)
  unfolding opened way_from range
  keeps-start window b g =
      record {
        is_live = refl;
        accord = refl;
        turn = turn-start b;
        holds = holds-start (search_of ac b) (laws ac b) 0 (row_of (fresh_sums b)) (off-start b) (way_from (core ac window (first_turn b)) (replicate 48 0) (replicate 72 0)) (λ s. refl);
        slot-below = omega arith;
        pending-fits = omega arith;
        sums-long = sums-start b;
        registers-long = length-replicate {A = ℕ} 48 0;
        picks-long = length-replicate {A = ℕ} 72 0;
        low = low-start b g;
        top = top_start b;
      }
