-- Every best sequence goes on from a best sequence for one symbol less, so for any number of symbols less. What all best
-- sequences begin with therefore begins all later ones, and every later answer (T3).
--   Came S y ys s p     the best sequence p into s is a best sequence for ys, with one more step
--   Begins K ys p       p's symbols begin with those of a best sequence for ys
use mathlib.Core.Path.{◌≡◌, refl, ap, subst}
use mathlib.Core.List.{List, [], ◌∷◌, ◌++◌, IsPrefix}
use Prim.Native.Nat.{ℕ, ◌<◌}
use Rattle.trellis.specs.Lists.{In}
use Rattle.trellis.specs.Code.{Code, Path, step, last, symbols, cost}
use Rattle.trellis.specs.Best.{Surv, absent, alive, Best, Answer, Common}
use Rattle.trellis.specs.Choose.{state_of}
use Rattle.trellis.specs.Search.{Search, Laws, extend, surv}
use Rattle.trellis.specs.Cells.{acs, cell}
use Rattle.trellis.proofs.Lists.{prefix-self, prefix-more, prefix_trans}
use Rattle.trellis.proofs.Choose.{absent-alive}
use Rattle.trellis.proofs.Optimal.{best-below}
use Rattle.trellis.proofs.Answer.{surv-best, best-surv, answer-best}
use Rattle.trellis.proofs.Select.{choose-at}
use Rattle.trellis.proofs.Off.{acs-surv}

pub record Came {K : Code} (S : Search K) (y : K.Y) (ys : List K.Y) (s : ℕ) (p : Path K.C) : Type 0 where
  pub from : ℕ
  pub from_is : (cell S y (surv S ys) s).prev ≡ from
  pub from_in : In from (S.preds s)
  pub path : Path K.C
  pub best : Best K ys from path
  pub is : step path (S.pick y from s) s ≡ p

pub record Begins (K : Code) (ys : List K.Y) (p : Path K.C) : Type 0 where
  pub at : ℕ
  pub path : Path K.C
  pub best : Best K ys at path
  pub begins : IsPrefix (symbols path) (symbols p)

module _ {K : Code} (S : Search K) (L : Laws S) where
  open K use {Y, C, N}
  open S use {preds, pick}

  pub came : (y : Y) (ys : List Y) (s : ℕ) (p : Path C) → Best K (y ∷ ys) s p → Came S y ys s p
  unfolding surv cell
  came y ys s p b = go (surv S ys t) refl k.1
    where
      t : ℕ
      t = state_of (acs S y (surv S ys) s)

      w : ℕ
      w = cost K (y ∷ ys) p

      h : s < N
      h = best-below K (y ∷ ys) s p b

      k : In t (preds s) × (extend S y s t (surv S ys t) ≡ alive w p)
      k =
          subst (λ (u : ℕ). In u (preds s) × (extend S y s u (surv S ys u) ≡ alive w p)) (ap state_of (acs-surv S L y ys s))
          (choose-at (λ t. extend S y s t (surv S ys t)) (preds s) w p (best-surv S L (y ∷ ys) s p b))

      go : (o : Surv (Path C)) → surv S ys t ≡ o → extend S y s t o ≡ alive w p → Came S y ys s p
      go absent e z = absurd (absent-alive z)
      go (alive v q) e z =
          record { from = t; from_is = refl; from_in = k.0; path = q; best = (surv-best S L ys t v q (L.preds-below t s h k.0) e).0; is = cc }

  -- zs are the symbols after ys, newest first
  pub best-begins : (zs ys : List Y) (s : ℕ) (p : Path C) → Best K (zs ++ ys) s p → Begins K ys p
  best-begins [] ys s p b = record { at = s; path = p; best = b; begins = prefix-self (symbols p) }
  best-begins (z ∷ zs) ys s p b =
      let k = came z (zs ++ ys) s p b in
      let r = best-begins zs ys k.from k.path k.best in
      let c : List C = pick z k.from s ∷ [] in
      let e : symbols k.path ++ c ≡ symbols p = ap symbols k.is in
      record {
        at = r.at;
        path = r.path;
        best = r.best;
        begins = subst (IsPrefix (symbols r.path)) e (prefix-more (symbols r.path) (symbols k.path) c r.begins);
      }

  pub common-stays : (zs ys : List Y) (l : List C) → Common K ys l → Common K (zs ++ ys) l
  common-stays zs ys l k s p b =
      let r = best-begins zs ys s p b in
      prefix_trans l (symbols r.path) (symbols p) (k r.at r.path r.best) r.begins

  pub common-final : (zs ys : List Y) (l : List C) → Common K ys l → (p : Path C) → Answer K (zs ++ ys) p → IsPrefix l (symbols p)
  common-final zs ys l k p a = common-stays zs ys l k (last p) p (answer-best S L (zs ++ ys) p a)
