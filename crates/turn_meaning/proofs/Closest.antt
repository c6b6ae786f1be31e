-- Where every received symbol is closest to the symbol sent, the condition of 02, Wish 10, holds: every symbol sequence other than the
-- sent one has a larger sum.
--   closest-alone   no second symbol sequence is as near
use mathlib.Core.Path.{◌≡◌, sym, ◌∙◌}
use mathlib.Core.List.{List, reverse}
use Prim.Native.Nat.{ℕ, ◌<◌}
use lib.Dec.{T}
use Rattle.wei.specs.Symbol.{Symbol, AllowedFrom}
use Rattle.trellis.specs.Code.{symbols}
use Rattle.trellis.specs.Measure.{Start, may_start, Measure, wei_code}
use Rattle.trellis.specs.Along.{Along, Closest}
use Rattle.trellis.proofs.Sent.{sent-path}
use Rattle.trellis.proofs.Closest.{least-only}
use Rattle.turn_meaning.specs.Alone.{Alone}

module _ (u : ℕ) (M : Measure) (b : Start) (s : ℕ) (h : s < 16) (t : T (may_start b s)) where
  open M use {Heard}

  pub closest-alone : (xs : List Heard) (cs : List Symbol) → Along (Closest u M) xs cs → AllowedFrom u s cs → Alone (wei_code u M b) (reverse xs)
  closest-alone xs cs k a p q m n =
      let r = sent-path u M b (Closest u M) s h t xs cs k a in
      let f : symbols p ≡ symbols r.path = (least-only u M b (reverse xs) p r.path m.allowed r.allowed r.along).1 (m.least r.path r.allowed) in
      let g : symbols q ≡ symbols r.path = (least-only u M b (reverse xs) q r.path n.allowed r.allowed r.along).1 (n.least r.path r.allowed) in
      f ∙ sym g
