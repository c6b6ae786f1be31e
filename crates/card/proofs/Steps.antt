-- The steps of a card's sequence: what the test of a step says of it, and what all of them say of the sequence and its sum.
--   step_is, is-step          what the test of one step says, both ways
--   all-allowed, allowed_all  the sequence is allowed exactly if every step carries its state to the next
--   sum_is                    its sum, added up as the check does
use mathlib.Core.Path.{◌≡◌, refl, sym, ap, subst, ◌∙◌}
use mathlib.Core.Bool.{true}
use Prim.Native.Nat.{ℕ, zero, suc, ◌+◌, ◌*◌, ◌<◌}
use native.Mathlib.Omega.{arith}
use native.Mathlib.Decide.{ℕ_discrete}
use native.Mathlib.Numerals.{add-one}
use lib.ListN.{get_or}
use Rattle.wei.specs.State.{before, between}
use Rattle.wei.specs.Symbol.{Carries}
use Rattle.wei.proofs.States.{next-below}
use Rattle.points.specs.declared.Accord.{Accord}
use Rattle.trellis.specs.Code.{last, Allowed, cost}
use Rattle.trellis.specs.Measure.{free}
use Rattle.trellis.proofs.Optimal.{allowed-below}
use Rattle.trellis.proofs.Branches.{before-in, in-before}
use Rattle.nearest.specs.Line.{BothInRange}
use Rattle.nearest.specs.Found.{weighed_of}
use Rattle.receiver_meaning.proofs.Search.{search_of, laws, cost-at}
use Rattle.lists.proofs.UpTo.{and_both}
use Rattle.card_sums.specs.Rows as rows
use Rattle.card_sums.proofs.Meant.{Held, holds-is, is_held}
use Rattle.card_symbol.specs.Chosen.{carries}
use Rattle.card_symbol.proofs.Tests.{joined, carries-is, is_carried}
use Rattle.card.specs.Card.{Card, heard_at, state_at, symbol_at, number_at, heard_to, sequence_to, line_code}
use Rattle.card.specs.Check.{pair_at, in_range, step_holds, far_at, sum_to}
use Rattle.card.proofs.Bounds.{Rising}
use Rattle.card.proofs.Tests.{range-is, is-range}

module _ (k : Accord) (c : Card) where
  -- the card's symbol carries its state to the next
  pub record Carried (i : ℕ) : Type 0 where
    pub from-state : state_at c i < 16
    pub carries : Carries k.u (state_at c i) (state_at c (suc i)) (symbol_at c i)

  abbrev pub Rises : ℕ → Type 0
  Rises i = Rising (search_of k free) (laws k free) (heard_at c) (number_at c) i

  pub record Stepped (i : ℕ) : Type 0 where
    pub in-range : BothInRange (heard_at c i)
    pub carried : Carried i
    pub rises : Rises i

  -- the number of t in the row after
  next-number : (i t : ℕ) → rows.number_at c.numbers (16 * i + 16) t ≡ number_at c (suc i) t
  next-number i t = ap (λ (j : ℕ). get_or c.numbers j 0) (let e : 16 * i + 16 + t ≡ 16 * suc i + t = omega arith in e)

  held-rises : (i : ℕ) → Held c.numbers (16 * i) (weighed_of k (heard_at c i)).costs → Rises i
  held-rises i r s t h m =
      let (j, g, e) = in-before s t m in
      let low = r t j h g in
      let z : number_at c i s ≡ number_at c i (before t j) = ap (number_at c i) e in
      let w = cost-at k (heard_at c i) s t ∙ ap (λ (x : ℕ). get_or (weighed_of k (heard_at c i)).costs (between x t) 0) e in
      omega (arith, next-number i t)

  rises-held : (i : ℕ) → Rises i → Held c.numbers (16 * i) (weighed_of k (heard_at c i)).costs
  rises-held i r t j h g =
      let low = r (before t j) t h (before-in t j g) in
      omega (arith, next-number i t, cost-at k (heard_at c i) (before t j) t)

  module _ (i : ℕ) where
    pub step_is : step_holds k c i ≡ true → Stepped i
    unfolding step_holds
    step_is e =
        let (a, e₁) = and_both (in_range (pair_at c.coordinates (4 * i))) _ e in
        let (b, d) = and_both (carries k.u (state_at c i) (state_at c (i + 1)) (symbol_at c i)) _ e₁ in
        let (h, g) = carries-is k.u (symbol_at c i) (state_at c i) (state_at c (i + 1)) b in
        record {
          in-range = range-is c i a;
          carried = record { from-state = h; carries = subst (λ (j : ℕ). Carries k.u (state_at c i) (state_at c j) (symbol_at c i)) (add-one i) g };
          rises = held-rises i (holds-is c.numbers (16 * i) _ d);
        }

    pub is-step : Stepped i → step_holds k c i ≡ true
    unfolding step_holds
    is-step s =
        let g = subst (λ (j : ℕ). Carries k.u (state_at c i) (state_at c j) (symbol_at c i)) (sym (add-one i)) s.carried.carries in
        joined (is-range c i s.in-range)
        (joined (is_carried k.u (symbol_at c i) (state_at c i) (state_at c (i + 1)) s.carried.from-state g) (is_held c.numbers (16 * i) _ (rises-held i s.rises)))

  pub last-is : (i : ℕ) → last (sequence_to c i) ≡ state_at c i
  last-is zero = refl
  last-is (suc i) = refl

  pub all-allowed : (n : ℕ) → state_at c 0 < 16 → ((i : ℕ) → i < n → Carried i) → Allowed (line_code k) (heard_to c n) (sequence_to c n)
  all-allowed zero h s = (h, tt)
  all-allowed (suc n) h s =
      let g = (s n (omega arith)).carries in (
        subst (λ (t : ℕ). t < 16) g.leads (next-below (state_at c n) _ _),
        subst (λ (t : ℕ). Carries k.u t (state_at c (suc n)) (symbol_at c n)) (sym (last-is n)) g,
        all-allowed n h (λ i l. s i (omega arith)),
      )

  pub allowed_all : (n : ℕ) → Allowed (line_code k) (heard_to c n) (sequence_to c n) → (i : ℕ) → i < n → Carried i
  allowed_all zero a i h = absurd (omega arith)
  allowed_all (suc n) a i h = go (ℕ_discrete i n) (allowed_all n a.2 i)
    where
      here : Carried n
      here = record {
        from-state = subst (λ (t : ℕ). t < 16) (last-is n) (allowed-below (line_code k) (heard_to c n) (sequence_to c n) a.2);
        carries = subst (λ (t : ℕ). Carries k.u t (state_at c (suc n)) (symbol_at c n)) (last-is n) a.1;
      }

      go : Dec (i ≡ n) → (i < n → Carried i) → Carried i
      go (yes e) below = subst Carried (sym e) here
      go (no e) below = below (omega arith)

  pub sum_is : (n : ℕ) → cost (line_code k) (heard_to c n) (sequence_to c n) ≡ sum_to k c n
  unfolding sum_to
  sum_is zero = refl
  sum_is (suc n) = ap (λ (w : ℕ). w + far_at k c n) (sum_is n)
