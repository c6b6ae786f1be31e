-- What the search of a line (receiver_meaning/proofs/Search) leaves to a receiver, whatever it heard.
--   some_up                    some state is always reached
--   turn_below                 the turn after what is final is a label, or not known
use mathlib.Core.Path.{◌≡◌, sym, ap, subst, ◌∙◌}
use mathlib.Core.List.{List, [], ◌∷◌, ◌++◌, IsPrefix}
use Prim.Native.Nat.{ℕ, ◌≤◌, ◌<◌}
use native.Mathlib.Omega.{arith}
use lib.Dec.{T}
use Rattle.trellis.specs.Lists.{Every}
use Rattle.trellis.specs.Code.{symbols}
use Rattle.trellis.specs.Best.{Surv}
use Rattle.trellis.specs.Choose.{up}
use Rattle.trellis.specs.Common.{common}
use Rattle.trellis.specs.Cells.{Off}
use Rattle.trellis.specs.Measure.{Start, GoodStart, Two}
use Rattle.trellis.specs.Speak.{after, carried}
use Rattle.trellis.specs.Words.{turn_after, first_turn}
use Rattle.trellis.proofs.Words.{first-turn}
use Rattle.receiver_meaning.specs.Told.{code_of}
use Rattle.receiver_meaning.proofs.Search.{search_of, laws, onward}
use Rattle.trellis.proofs.Optimal.{best-below}
use Rattle.trellis.proofs.Answer.{reached-best, best-surv}
use Rattle.trellis.proofs.Off.{off-up}
use Rattle.trellis.proofs.Final.{common-final}
use Rattle.trellis.proofs.Common.{common-common}
use Rattle.trellis.proofs.Onward.{some-reached, some-answer}
use Rattle.trellis.proofs.Paths.{allowed-runs}
use Rattle.trellis.proofs.IvEight.{allowed-valid}
use Rattle.wei.specs.Symbol.{Symbol, first_label, Valid}
use Rattle.nearest.specs.declared.Received.{Received}
use Rattle.nearest.specs.Line.{line_measure}
use Rattle.points.specs.declared.Accord.{Accord}

module _ (ac : Accord) (b : Start) (g : GoodStart b) where
  pub some_up : (ys : List (Two Received)) (m : ℕ) (row : ℕ → Surv (Unit {0})) → Off (search_of ac b) ys m row → (s : ℕ) × (s < 16) × T (up (row s))
  some_up ys m row off =
      let (s, r) = some-reached (code_of ac b) (onward ac b g) ys in
      let (p, q) = reached-best (search_of ac b) (laws ac b) ys s r in
      let h : s < 16 = best-below (code_of ac b) ys s p q in
      (s, h, subst T (sym (off-up (search_of ac b) (laws ac b) ys m row off s h ∙ ap up (best-surv (search_of ac b) (laws ac b) ys s p q))) tt)

  -- what is final begins an allowed sequence
  common-valid : (ys : List (Two Received)) → Every (Valid ac.u) (common (search_of ac b) ys)
  common-valid ys =
      let (p, a) = some-answer (search_of ac b) (laws ac b) (onward ac b g) ys in
      let r = allowed-runs ac.u (line_measure ac) b ys p a.allowed in
      front (common (search_of ac b) ys) (symbols p)
      (common-final (search_of ac b) (laws ac b) [] ys (common (search_of ac b) ys) (common-common (search_of ac b) (laws ac b) ys) p a)
      (allowed-valid ac.u r.from (symbols p) r.allowed)
    where
      front : (l m : List Symbol) → IsPrefix l m → Every (Valid ac.u) m → Every (Valid ac.u) l
      front [] m k v = tt
      front (c ∷ l) [] (r, e) v = absurd (let z : ◌≡◌ {A = ℕ} 0 1 = cc in omega arith)
      front (c ∷ l) (d ∷ m) (r, e) v =
          let z₁ : c ≡ d = cc in
          let z₂ : l ++ r ≡ m = cc in
          (subst (Valid ac.u) (sym z₁) v.0, front l m (r, z₂) v.1)

  pub turn_below : (ys : List (Two Received)) → carried (search_of ac b) turn_after (first_turn b) ys ≤ 4
  unfolding carried after
  turn_below ys = go (first_turn b) (common (search_of ac b) ys) (common-valid ys) (first-turn b)
    where
      go : (q : ℕ) (cs : List Symbol) → Every (Valid ac.u) cs → q ≤ 4 → after turn_after q cs ≤ 4
      go q [] v h = h
      go q (c ∷ cs) v h = go (first_label c) cs v.1 (omega (arith, v.0.i2-below, v.0.i3-below))
