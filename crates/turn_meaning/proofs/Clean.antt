-- On a clean line the condition of 02, Wish 10, holds: what was sent has the sum 0, and where no received symbol lies on two symbols no
-- other symbol sequence has.
--   clean-alone   no second symbol sequence is as near
use Prim.Native.Nat.{ℕ, ◌<◌}
use native.Mathlib.Omega.{arith}
use mathlib.Core.List.{List, reverse}
use lib.Dec.{T}
use Rattle.wei.specs.Symbol.{Symbol, AllowedFrom}
use Rattle.trellis.specs.Lists.{Every}
use Rattle.trellis.specs.Measure.{Start, may_start, Measure, wei_code}
use Rattle.trellis.specs.Clean.{Hits, Exact}
use Rattle.trellis.proofs.Lists.{every-reverse}
use Rattle.trellis.proofs.Clean.{one-zero, sent-zero}
use Rattle.turn_meaning.specs.Alone.{Alone}

module _ (u : ℕ) (M : Measure) (b : Start) (s : ℕ) (h : s < 16) (t : T (may_start b s)) where
  open M use {Heard}

  pub clean-alone : (xs : List Heard) (cs : List Symbol) → Every (Exact u M) xs → Hits M xs cs → AllowedFrom u s cs →
      Alone (wei_code u M b) (reverse xs)
  clean-alone xs cs E k a p q m n =
      let (r, c, z, e) = sent-zero u M b s h t xs cs k a in
      one-zero u M b (reverse xs) (every-reverse (Exact u M) xs E) p q m.allowed n.allowed
      (omega (arith, m.least r c, z)) (omega (arith, n.least r c, z))
