-- Any number of quarter turns: where one symbol sequence alone is nearest, the words of the nearest sequence with a free start stay, as far
-- as one turn leaves them as they are.
--   turned-words   the words of what is nearest before and after k turns, seen through f
use mathlib.Core.Path.{◌≡◌, refl, sym, ap, subst, ◌∙◌}
use mathlib.Core.List.{List, map, map-id, map-map}
use Prim.Native.Nat.{ℕ, zero, suc}
use Rattle.wei.specs.Symbol.{Symbol, Valid}
use Rattle.trellis.specs.Lists.{Every}
use Rattle.trellis.specs.Code.{Code, Path, symbols, Allowed}
use Rattle.trellis.specs.Measure.{free, Two, pairs, wei_code}
use Rattle.trellis.specs.Words.{words}
use Rattle.trellis.proofs.IvEight.{allowed-valid}
use Rattle.trellis.proofs.Paths.{allowed-runs}
use Rattle.turn_meaning.specs.Alone.{IsNearest, Alone}
use Rattle.turn_meaning.specs.Turned.{times, two_turned}
use Rattle.turn_meaning.proofs.Symmetry.{Symmetry, turned_path, symbols-turned, turned-nearest, turned-alone}
use Rattle.turn_meaning.proofs.Wei.{Turns, quarter}
use Rattle.turn_meaning.proofs.Words.{Kept}

module _ {P : Type 0} (u : ℕ) (d : P → ℕ → ℕ → ℕ) (n : ℕ → ℕ) (tp : P → P) (tw : ℕ → ℕ) (T : Turns u d tp tw) where
  abbrev K : Code
  K = wei_code u (pairs P d n) free

  abbrev S : Symmetry K
  S = quarter u d n tp tw T

  -- what is turned k times
  abbrev after : ℕ → List (Two P) → List (Two P)
  after k ys = map (times (two_turned tp) k) ys

  symbols-valid : (ys : List (Two P)) (p : Path Symbol) → Allowed K ys p → Every (Valid u) (symbols p)
  symbols-valid ys p a =
      let r = allowed-runs u (pairs P d n) free ys p a in
      allowed-valid u r.from (symbols p) r.allowed

  module _ (f : ℕ → ℕ) (kept : Kept tw u f) where
    -- the words of a sequence, seen through f
    abbrev said : Path Symbol → List ℕ
    said p = map f (words u free (symbols p))

    said-turned : (ys : List (Two P)) (p : Path Symbol) → IsNearest K ys p → said (turned_path S p) ≡ said p
    unfolding quarter
    said-turned ys p m =
        ap (λ (l : List Symbol). map f (words u free l)) (symbols-turned S p) ∙ kept (symbols p) (symbols-valid ys p m.allowed)

    -- after k turns a sequence with the same words is nearest, and no other symbols are as near
    record After (k : ℕ) (ys : List (Two P)) (p : Path Symbol) : Type 0 where
      path : Path Symbol
      nearest : IsNearest K (after k ys) path
      alone : Alone K (after k ys)
      same : said path ≡ said p

    all-turns : (k : ℕ) (ys : List (Two P)) (p : Path Symbol) → Alone K ys → IsNearest K ys p → After k ys p
    unfolding quarter
    all-turns zero ys p A m =
        let e = sym (map-id ys) in
        record { path = p; nearest = subst (λ (l : List (Two P)). IsNearest K l p) e m; alone = subst (Alone K) e A; same = refl }
    all-turns (suc k) ys p A m =
        let r = all-turns k ys p A m in
        let e : map (two_turned tp) (after k ys) ≡ after (suc k) ys = map-map (two_turned tp) (times (two_turned tp) k) ys in
        let q = turned_path S r.path in
        record {
          path = q;
          nearest = subst (λ (l : List (Two P)). IsNearest K l q) e (turned-nearest S (after k ys) r.path r.nearest);
          alone = subst (Alone K) e (turned-alone S (after k ys) r.alone);
          same = said-turned (after k ys) r.path r.nearest ∙ r.same;
        }

    pub turned-words : (k : ℕ) (ys : List (Two P)) → Alone K ys → (p q : Path Symbol) → IsNearest K ys p → IsNearest K (after k ys) q →
        map f (words u free (symbols q)) ≡ map f (words u free (symbols p))
    turned-words k ys A p q m o =
        let r = all-turns k ys p A m in
        ap (λ (l : List Symbol). map f (words u free l)) (r.alone q r.path o r.nearest) ∙ r.same
