-- 02, WISH 4. "A missing point adds 0 to every distance, so ties decide, w going to 0." A symbol that misses both points leaves every sum
-- where the trellis alone puts it: each sequence that goes on with it has the sum that it had, whatever symbol it takes.
--   nothing        the received symbol that misses both points
--   sum_kept       a sequence's sum with it is its sum without it
--   never-five     it is good after every history, and so is a symbol whose heard point is in range
--   zeros-taken    of each subset the symbol with I3', w1 and w2 0 is taken
use mathlib.Core.Path.{◌≡◌}
use mathlib.Core.List.{List, ◌∷◌}
use Prim.Native.Nat.{ℕ}
use native.Mathlib.Omega.{arith}
use Rattle.wei.specs.Symbol.{Symbol}
use Rattle.points.specs.declared.Accord.{Accord}
use Rattle.trellis.specs.Code.{Path, step, cost}
use Rattle.trellis.specs.Measure.{Start, Two}
use Rattle.nearest.specs.declared.Received.{Received}
use Rattle.nearest.specs.declared.Received.TheVariants.{Missing}
use Rattle.nearest.specs.Line.{InRange, line_choice}
use Rattle.nearest.specs.Found.{heard_as}
use Rattle.nearest.proofs.Missing.{far-missing, choice-missing}
use Rattle.receiver_meaning.specs.Told.{code_of, fault_of}
use Rattle.receiver_meaning.proofs.Telling.{no-fault}

abbrev pub nothing : Two Received
nothing = heard_as Missing Missing

module _ (k : Accord) (b : Start) where
  pub sum_kept : (ys : List (Two Received)) (p : Path Symbol) (c : Symbol) (s : ℕ) → cost (code_of k b) (nothing ∷ ys) (step p c s) ≡ cost (code_of k b) ys p
  sum_kept ys p c s = omega (arith, far-missing k c)

pub zeros-taken : (k : Accord) (y0 i1 i2 : ℕ) → line_choice k nothing y0 i1 i2 ≡ record { y0 = y0; i1 = i1; i2 = i2; i3 = 0; w1 = 0; w2 = 0 }
zeros-taken = choice-missing

-- a missing point is never a 5: whatever is heard in range beside it has no fault
pub never-five : (h : Received) → InRange h → (fault_of (heard_as Missing h) ≡ 4) × (fault_of (heard_as h Missing) ≡ 4)
never-five h r = (no-fault (heard_as Missing h) (record { first-in = tt; second-in = r }), no-fault (heard_as h Missing) (record { first-in = r; second-in = tt }))
