-- The steps of a card, one after another, as the code's loop takes them.
--   Followed k c i w    the first i steps hold, and w is their sum
--   begun, goes         the loop's start, and one step more
--   fails               a step that does not hold decides
--   ends                all steps hold: the last row decides
--   sum_fits            a sum of so few steps and one more fits
use mathlib.Core.Path.{◌≡◌, refl, sym, ap, ap₂, ◌∙◌}
use mathlib.Core.Bool.{Bool, true, false, cond, ◌&&◌}
use Prim.Native.Nat.{ℕ, zero, suc, ◌+◌, ◌*◌, ◌≤◌, ◌<◌}
use native.Mathlib.Numerals.{add-one}
use native.Mathlib.Omega.{arith}
use Rattle.points.specs.declared.Accord.{Accord}
use Rattle.nearest.proofs.Laws.{far-most}
use Rattle.card_sums.specs.Every.{every_below}
use Rattle.card_sums.specs.Rows.{none_below}
use Rattle.card_sums.proofs.Every.{every-none, every_more, every-fails, every-ends}
use Rattle.std.specs.Prelude.{Some, None}
use Rattle.card.specs.Card.{Card, heard_at, symbol_at}
use Rattle.card.specs.Check.{step_holds, far_at, step_of, sum_to, follows}

module _ (k : Accord) (c : Card) where
  pub record Followed (i w : ℕ) : Type 0 where
    pub steps : true ≡ every_below (step_holds k c) i
    pub sum : w ≡ sum_to k c i

  pub begun : Followed 0 0
  unfolding sum_to
  begun = record { steps = every-none (step_holds k c); sum = refl }

  -- what a step came to says whether it holds
  by-step : (i : ℕ) (b : Bool) → step_holds k c i ≡ b → step_of k c i ≡ cond b (Some (far_at k c i)) None
  unfolding step_of
  by-step i b e = rw e

  holds-if : (i far : ℕ) → Some far ≡ step_of k c i → (step_holds k c i ≡ true) × (far ≡ far_at k c i)
  holds-if i far e = go (step_holds k c i) refl
    where
      go : (b : Bool) → step_holds k c i ≡ b → (step_holds k c i ≡ true) × (far ≡ far_at k c i)
      go true p = (p, let z : Some far ≡ Some (far_at k c i) = e ∙ by-step i true p in cc)
      go false p = let z : Some far ≡ None = e ∙ by-step i false p in let y : ◌≡◌ {A = ℕ} 0 1 = cc in absurd (omega arith)

  fails-if : (i : ℕ) → None ≡ step_of k c i → step_holds k c i ≡ false
  fails-if i e = go (step_holds k c i) refl
    where
      go : (b : Bool) → step_holds k c i ≡ b → step_holds k c i ≡ false
      go true p = let z : None ≡ Some (far_at k c i) = e ∙ by-step i true p in let y : ◌≡◌ {A = ℕ} 0 1 = cc in absurd (omega arith)
      go false p = p

  pub fails : (n i : ℕ) → i < n → None ≡ step_of k c i → false ≡ follows k c n
  unfolding follows
  fails n i h e = sym (ap (λ (b : Bool). b && none_below c.numbers (16 * n) (sum_to k c n)) (every-fails (step_holds k c) n i h (fails-if i e)))

  pub goes : (i w far : ℕ) → Followed i w → Some far ≡ step_of k c i → Followed (i + 1) (w + far)
  unfolding sum_to
  goes i w far f e =
      let (p, q) = holds-if i far e in
      record { steps = every_more (step_holds k c) i f.steps p; sum = ap₂ (λ (v x : ℕ). v + x) f.sum q ∙ ap (sum_to k c) (sym (add-one i)) }

  sum-most : (i : ℕ) → sum_to k c i ≤ i * 524288
  unfolding sum_to
  sum-most zero = omega arith
  sum-most (suc i) = omega (arith, sum-most i, far-most k (heard_at c i) (symbol_at c i))

  pub sum_fits : (i w far : ℕ) → Followed i w → Some far ≡ step_of k c i → i < 64 → w + far < 33554433
  sum_fits i w far f e h = omega (arith, f.sum, sum-most i, (holds-if i far e).1, far-most k (heard_at c i) (symbol_at c i))

  pub ends : (n i w : ℕ) (r : Bool) → Followed i w → i ≡ n → r ≡ none_below c.numbers (16 * n) w → r ≡ follows k c n
  unfolding follows
  ends n i w r f z e =
      let at : w ≡ sum_to k c n = f.sum ∙ ap (sum_to k c) z in
      rw (sym (every-ends (step_holds k c) n i z f.steps), ← at) e
