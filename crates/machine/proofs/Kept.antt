-- 02, Wish 6: "Keep for each reachable state its sum less the smallest sum of any reachable state, in 32 bits", and that it always fits.
--   Less t sums    what the sums of a receiver are that has been told t: each state's least sum less the answer's, which is the least of all
--   less-told      they are so, for every history that calls can tell: any start, either map, missing points too, however long
-- A sum is in squared line units. What a state keeps that nothing reaches is more than any reached state has, with one more cost too.
use mathlib.Core.Path.{◌≡◌, refl, ap, ◌∙◌}
use mathlib.Core.Bool.{Bool, true, false, cond}
use mathlib.Core.List.{List}
use Prim.Native.Nat.{ℕ, ◌+◌, ◌≤◌, ◌<◌}
use native.Mathlib.Omega.{arith}
use lib.Dec.{ltb}
use lib.ListN.{get_or}
use borrow.Author.Tests.{ltb-true, ltb-false}
use Rattle.trellis.specs.Code.{Path, cost, Reached}
use Rattle.trellis.specs.Best.{Surv, absent, alive, Best, Answer}
use Rattle.trellis.specs.Measure.{Two}
use Rattle.trellis.proofs.Optimal.{best-below}
use Rattle.trellis.proofs.Spread.{row-best, best-row}
use Rattle.trellis.proofs.Spread as spread
use Rattle.wei.specs.Symbol.{Symbol}
use Rattle.nearest.specs.declared.Received.{Received}
use Rattle.nearest.specs.Line.{line_measure}
use Rattle.nearest.proofs.Laws.{far-most}
use Rattle.select.specs.Select.{limit, row_of}
use Rattle.receiver_meaning.specs.Told.{Told, code_of, Fine}
use Rattle.machine.specs.Machine.{machine_of}
use Rattle.receiver_meaning.proofs.Search.{search_of, laws}
use Rattle.machine.proofs.Bounds.{kept-most, zero_is}
use Rattle.machine.proofs.Owes.{Owes, owes}

pub record Less (t : Told) (sums : List ℕ) : Type 0 where
  -- the best sequence into s, and the best of all
  pub reached : (s : ℕ) (p q : Path Symbol) → Best (code_of t.accord t.start) t.heard s p → Answer (code_of t.accord t.start) t.heard q →
      get_or sums s 0 + cost (code_of t.accord t.start) t.heard q ≡ cost (code_of t.accord t.start) t.heard p
  pub fits : (s : ℕ) (p : Path Symbol) → Best (code_of t.accord t.start) t.heard s p → get_or sums s 0 ≤ 1048576
  -- a sum that is compared: with what one more symbol counts for
  pub compared : (s : ℕ) (p : Path Symbol) → Best (code_of t.accord t.start) t.heard s p →
      (y : Two Received) (c : Symbol) → get_or sums s 0 + (line_measure t.accord).far y c ≤ 1572864
  pub others : (s : ℕ) → s < 16 → (Reached (code_of t.accord t.start) t.heard s → ⊥) → get_or sums s 0 ≡ 2097152

row-sum : (sums : List ℕ) (s v : ℕ) → row_of sums s ≡ alive v tt → (get_or sums s 0 ≡ v) × (get_or sums s 0 < limit)
row-sum sums s v = go (ltb (get_or sums s 0) limit) refl
  where
    go : (b : Bool) → ltb (get_or sums s 0) limit ≡ b → ◌≡◌ {A = Surv (Unit {0})} (cond b (alive (get_or sums s 0) tt) absent) (alive v tt) → (get_or sums s 0 ≡ v) × (get_or sums s 0 < limit)
    go true e z = (let x : get_or sums s 0 ≡ v = cc in x, ltb-true (get_or sums s 0) limit e)
    go false e z = absurd (let x : ◌≡◌ {A = ℕ} 0 1 = cc in omega arith)

module _ (t : Told) (f : Fine t) where
  abbrev sums : List ℕ
  sums = (machine_of t).sums

  o : Owes t t.heard (machine_of t)
  o = owes t f

  abbrev m : ℕ
  m = o.keeps.holds.less

  -- what a reached state keeps
  reached-sum : (s : ℕ) (p : Path Symbol) → Best (code_of t.accord t.start) t.heard s p → get_or sums s 0 < limit
  reached-sum s p b =
      let (v, e, c) = best-row (search_of t.accord t.start) (laws t.accord t.start) t.heard m (row_of sums) o.keeps.holds.off s p b in
      (row-sum sums s v e).1

  least-sum : (s : ℕ) (p q : Path Symbol) → Best (code_of t.accord t.start) t.heard s p → Answer (code_of t.accord t.start) t.heard q →
      get_or sums s 0 + cost (code_of t.accord t.start) t.heard q ≡ cost (code_of t.accord t.start) t.heard p
  least-sum s p q b a =
      let off = o.keeps.holds.off in
      let low = o.keeps.low in
      let (v, e, c) = spread.kept-is (search_of t.accord t.start) (laws t.accord t.start) t.heard m (row_of sums) off
      low.state low.below (zero_is t.accord t.start t.heard sums m off low) s p q b a in
      ap (λ (n : ℕ). n + cost (code_of t.accord t.start) t.heard q) (row-sum sums s v e).0 ∙ c

  few : (s : ℕ) (p : Path Symbol) → Best (code_of t.accord t.start) t.heard s p → get_or sums s 0 ≤ 1048576
  few s p b =
      kept-most t.accord t.start t.heard sums m o.keeps.holds.off o.keeps.low s
      (best-below (code_of t.accord t.start) t.heard s p b) (reached-sum s p b)

  -- a state with a sum has a sequence, so one without a sequence has the limit
  other : (s : ℕ) → s < 16 → (Reached (code_of t.accord t.start) t.heard s → ⊥) → get_or sums s 0 ≡ 2097152
  other s h n = go (ltb (get_or sums s 0) limit) refl
    where
      go : (b : Bool) → ltb (get_or sums s 0) limit ≡ b → get_or sums s 0 ≡ 2097152
      go false e = omega (arith, ltb-false (get_or sums s 0) limit e, o.keeps.top s)
      go true e =
          let (p, b, c) = row-best (search_of t.accord t.start) (laws t.accord t.start) t.heard m (row_of sums) o.keeps.holds.off s (get_or sums s 0) h (rw e) in
          absurd (n (record { by = p; allowed = b.allowed; ends = b.ends }))

  pub less-told : Less t (machine_of t).sums
  less-told =
      record {
        reached = least-sum;
        fits = few;
        compared = λ s p b y c. omega (arith, few s p b, far-most t.accord y c);
        others = other;
      }
