-- Numbers, sixteen for the start and after each symbol, that bound the sums of all allowed sequences from below: for any code, and any
-- search that obeys its laws. No tie matters.
--   Rising i      no number of the row after the i-th symbol is more than one of the row before and the distance of what is picked between
--   bounds        where the numbers of the start are 0 and all rows rise so, none is more than the sum of a sequence into its state
--   least_zero    the least sums of the start are 0
--   least-rises   the least sums rise so
use mathlib.Core.Path.{◌≡◌, refl, sym, subst}
use mathlib.Core.List.{[]}
use Prim.Native.Nat.{ℕ, zero, suc, ◌+◌, ◌≤◌, ◌<◌}
use native.Mathlib.Omega.{arith}
use Rattle.trellis.specs.Lists.{In}
use Rattle.trellis.specs.Code.{Code, Path, begin, step, last, Allowed, cost}
use Rattle.trellis.specs.Search.{Search, Laws}
use Rattle.trellis.proofs.Optimal.{allowed-below}
use Rattle.card.specs.Card.{up_to, LeastInto}

module _ {K : Code} (S : Search K) (L : Laws S) (heard : ℕ → K.Y) (rows : ℕ → ℕ → ℕ) where
  open K use {C, N, Branch, dist}
  open S use {preds, pick}

  abbrev pub Rising : ℕ → Type 0
  Rising i = (s t : ℕ) → t < N → In s (preds t) → rows (suc i) t ≤ rows i s + dist (heard i) (pick (heard i) s t)

  pub bounds : ((s : ℕ) → s < N → rows 0 s ≡ 0) → (i : ℕ) → ((j : ℕ) → j < i → Rising j) →
      (p : Path C) → Allowed K (up_to heard i) p → rows i (last p) ≤ cost K (up_to heard i) p
  bounds z zero r (begin s) a = omega (arith, z s a.0)
  bounds z zero r (step p c s) a = absurd a
  bounds z (suc i) r (begin s) a = absurd a
  bounds z (suc i) r (step p c s) a =
      let h : last p < N = allowed-below K (up_to heard i) p a.2 in
      omega (
        arith,
        bounds z i (λ j l. r j (omega arith)) p a.2,
        r i (omega arith) (last p) s a.0 (L.preds-all (last p) s c h a.0 a.1),
        L.pick-sum (heard i) (last p) s c h a.0 a.1,
      )

  pub least_zero : (s : ℕ) → LeastInto K [] s (rows 0 s) → rows 0 s ≡ 0
  least_zero s l = sym l.sum

  -- a best sequence into s, and what is picked between, lead to t
  pub least-rises : (i s t : ℕ) → t < N → In s (preds t) → LeastInto K (up_to heard (suc i)) t (rows (suc i) t) → LeastInto K (up_to heard i) s (rows i s) →
      rows (suc i) t ≤ rows i s + dist (heard i) (pick (heard i) s t)
  least-rises i s t h m after before =
      let c = pick (heard i) s t in
      let b : Branch (last before.by) t c = subst (λ (x : ℕ). Branch x t c) (sym before.ends) (L.pick-branch (heard i) s t h m) in
      omega (arith, after.least (step before.by c t) (h, b, before.allowed) refl, before.sum)
