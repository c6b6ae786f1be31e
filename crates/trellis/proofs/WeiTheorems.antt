-- The summary for Wei's code: what 01 says of the answer for a list and of release, at every width, with every start, and for any
-- distance d of a received point from the point with a label and a number, counted by any n by which no smaller distance counts for
-- more. In the order of time: xs is what was heard, the oldest first, and zs what comes after it.
-- T1 to T4 are those of proofs/Theorems. For another measure they hold as soon as its choice obeys `Chooses` (proofs/WeiLaws).
use mathlib.Core.Path.{◌≡◌}
use mathlib.Core.List.{List, [], ◌∷◌, ◌++◌, map, reverse, reverse-append, IsPrefix}
use mathlib.Core.Logic.{◌↔◌}
use Prim.Native.Nat.{ℕ, ◌≤◌, ◌<◌}
use lib.ListN.{length, length-reverse}
use Rattle.trellis.specs.Lists.{Every}
use Rattle.trellis.specs.Code.{Path, symbols, Onward}
use Rattle.trellis.specs.Best.{Surv, Best, Answer, Common, Longest, Found, Answered}
use Rattle.trellis.specs.Search.{Laws, surv, answer}
use Rattle.trellis.specs.Common.{common, reach}
use Rattle.trellis.specs.Measure.{Start, free, GoodStart, First, Two, pairs, wei_code}
use Rattle.trellis.specs.Allowed.{Allows}
use Rattle.trellis.specs.IvEight.{Fives, bits_of, point_bits, points_of, IsPair, AllowsPoints}
use Rattle.trellis.specs.Same.{same_symbol}
use Rattle.trellis.specs.Pick.{best_of, pair_search}
use Rattle.trellis.proofs.Theorems as general
use Rattle.trellis.proofs.WeiLaws.{wei-laws, wei-onward}
use Rattle.trellis.proofs.Pairs.{Rises, best-first, pairs-chooses}
use Rattle.trellis.proofs.IvEight.{iv-eight, four-allowed}
use Rattle.trellis.proofs.IvPoints.{points-iv-eight, points-four}
use Rattle.trellis.proofs.Subsets.{first-only, subsets-apart, picks-same, common-points}
use Rattle.trellis.proofs.Newest.{newest-kept}
use Rattle.wei.specs.State.{subset_of, between}
use Rattle.wei.specs.Symbol.{Symbol, Valid}
use Rattle.points.specs.declared.Point.{Point}

module _ {P : Type 0} (u : ℕ) (d : P → ℕ → ℕ → ℕ) (n : ℕ → ℕ) (rises : Rises n) (b : Start) where
  pub laws : Laws (pair_search u d n b)
  laws = wei-laws u (pairs P d n) (best_of u d n) (pairs-chooses u d n rises) same_symbol b

  pub onward : GoodStart b → Onward (wei_code u (pairs P d n) b)
  onward g = wei-onward u (pairs P d n) b g

  -- T1. The best sequence into each state, and there is none exactly if the state is not reached.
  pub T1 : (xs : List (Two P)) (s : ℕ) → s < 16 → Found (wei_code u (pairs P d n) b) (reverse xs) s (surv (pair_search u d n b) (reverse xs) s)
  T1 = general.T1 (pair_search u d n b) laws

  pub T1-only : (xs : List (Two P)) (s : ℕ) → s < 16 → (o : Surv (Path Symbol)) → Found (wei_code u (pairs P d n) b) (reverse xs) s o → o ≡ surv (pair_search u d n b) (reverse xs) s
  T1-only = general.T1-only (pair_search u d n b) laws

  -- T2. The answer, and the only one.
  pub T2 : (xs : List (Two P)) → Answered (wei_code u (pairs P d n) b) (reverse xs) (answer (pair_search u d n b) (reverse xs))
  T2 = general.T2 (pair_search u d n b) laws

  pub T2-only : (xs : List (Two P)) (o : Surv (Path Symbol)) → Answered (wei_code u (pairs P d n) b) (reverse xs) o → o ≡ answer (pair_search u d n b) (reverse xs)
  T2-only = general.T2-only (pair_search u d n b) laws

  -- T3. What all best sequences begin with, every later answer begins with.
  pub T3 : (xs zs : List (Two P)) (l : List Symbol) → Common (wei_code u (pairs P d n) b) (reverse xs) l →
      (p : Path Symbol) → Answer (wei_code u (pairs P d n) b) (reverse (xs ++ zs)) p → IsPrefix l (symbols p)
  T3 = general.T3 (pair_search u d n b) laws

  -- T4. The longest common beginning, exactly; it never shrinks, and it always lacks the newest symbol.
  pub T4 : GoodStart b → (xs : List (Two P)) → Longest (wei_code u (pairs P d n) b) (reverse xs) (common (pair_search u d n b) (reverse xs))
  T4 g = general.T4 (pair_search u d n b) laws (onward g)

  pub T4-only : GoodStart b → (xs : List (Two P)) (l : List Symbol) → Longest (wei_code u (pairs P d n) b) (reverse xs) l → l ≡ common (pair_search u d n b) (reverse xs)
  T4-only g = general.T4-only (pair_search u d n b) laws (onward g)

  pub T4-grows : GoodStart b → (xs zs : List (Two P)) (l m : List Symbol) → Longest (wei_code u (pairs P d n) b) (reverse xs) l
      → Longest (wei_code u (pairs P d n) b) (reverse (xs ++ zs)) m → IsPrefix l m
  T4-grows g = general.T4-grows (pair_search u d n b) laws (onward g)

  pub T4-newest : GoodStart b → (xs : List (Two P)) (y : Two P) → reach (pair_search u d n b) (reverse (xs ++ (y ∷ []))) ≤ length xs
  T4-newest g xs y = rw (reverse-append, ← length-reverse xs) (newest-kept u (pairs P d n) (best_of u d n) (pairs-chooses u d n rises) same_symbol b g y (reverse xs))

-- T5. With a free start symbols are allowed exactly if they can be sent and each five in a row meet IV-8; so up to four anything is.
pub T5 : (u : ℕ) (cs : List Symbol) → Allows u free cs ↔ (Every (Valid u) cs × Fives (map bits_of cs))
T5 = iv-eight

pub T5-few : (u : ℕ) (cs : List Symbol) → Every (Valid u) cs → length cs ≤ 4 → Allows u free cs
T5-few = four-allowed

-- the same of pairs of points
pub T5-points : (u : ℕ) → u ≤ 8 → (ps : List (Two Point)) → AllowsPoints u free ps ↔ (Every (IsPair u) ps × Fives (map point_bits ps))
T5-points = points-iv-eight

pub T5-points-few : (u : ℕ) → u ≤ 8 → (ps : List (Two Point)) → Every (IsPair u) ps → length ps ≤ 4 → AllowsPoints u free ps
T5-points-few = points-four

-- T6. Symbols of different subsets differ in a point.
pub T6-apart : (u : ℕ) → u ≤ 8 → (c e : Symbol) → Valid u c → Valid u e → (subset_of c.y0 c.i1 c.i2 ≡ subset_of e.y0 e.i1 e.i2 → ⊥) → points_of c ≡ points_of e → ⊥
T6-apart = subsets-apart

module _ {P : Type 0} (u : ℕ) (d : P → ℕ → ℕ → ℕ) (n : ℕ → ℕ) (rises : Rises n) where
  -- one received symbol and one subset have one best symbol, and `best_of` is it
  pub T6-first : (y : Two P) (y0 i1 i2 : ℕ) → y0 < 2 → i1 < 2 → i2 < 2 → First u (pairs P d n) y (best_of u d n y y0 i1 i2)
  T6-first = best-first u d n rises

  pub T6-only : (y : Two P) (c e : Symbol) → First u (pairs P d n) y c → First u (pairs P d n) y e → c.y0 ≡ e.y0 → c.i1 ≡ e.i1 → c.i2 ≡ e.i2 → c ≡ e
  T6-only = first-only u (pairs P d n) (best_of u d n) (pairs-chooses u d n rises)

  -- T6. Two steps of best sequences have the same symbol exactly if they have the same subset; and a common beginning of symbols is
  -- one of pairs of points, "both points equal".
  pub T6 : (b : Start) (y : Two P) (s t s' t' : ℕ) → ((pair_search u d n b).pick y s t ≡ (pair_search u d n b).pick y s' t') ↔ (between s t ≡ between s' t')
  T6 = picks-same u (pairs P d n) (best_of u d n) (pairs-chooses u d n rises) same_symbol

  pub T6-points : u ≤ 8 → (b : Start) (xs : List (Two P)) (l : List Symbol) → Every (Valid u) l →
      Common (wei_code u (pairs P d n) b) (reverse xs) l ↔ ((s : ℕ) (p : Path Symbol) → Best (wei_code u (pairs P d n) b) (reverse xs) s p → IsPrefix (map points_of l) (map points_of (symbols p)))
  T6-points h b xs = common-points u h (pairs P d n) b (reverse xs)
