-- The check of a card, in the words of 02, Wish 14: what it accepts is allowed and nearest, whatever the card sent; a card whose numbers are
-- the true least sums and whose sequence is allowed and nearest is accepted, however its ties fall.
--   sound-whole, sound-nearest   what is accepted
--   complete                     what must be
--   checks                       both, of the answer of the check
--   checks-settled               any two answers that the promise allows are equal
use mathlib.Core.Path.{◌≡◌, sym, ap, ◌∙◌}
use mathlib.Core.Bool.{Bool, true}
use Prim.Native.Nat.{ℕ, suc, ◌+◌, ◌*◌, ◌≤◌, ◌<◌}
use native.Mathlib.Omega.{arith}
use lib.ListN.{get_or}
use Rattle.points.specs.declared.Accord.{Accord}
use Rattle.points.specs.Agreed.{is_accord}
use Rattle.trellis.specs.Code.{last, cost}
use Rattle.trellis.specs.Measure.{free}
use Rattle.trellis.proofs.Optimal.{allowed-below}
use Rattle.receiver_meaning.proofs.Search.{search_of, laws}
use Rattle.lists.proofs.UpTo.{and_both}
use Rattle.card_sums.specs.Every.{every_below}
use Rattle.card_sums.specs.Rows.{starts_at_zero}
use Rattle.card_sums.proofs.Every.{every-all, all-every}
use Rattle.card_sums.proofs.Meant.{zero_is, is_zero, none_is, is_none}
use Rattle.card_symbol.proofs.Tests.{joined}
use Rattle.card.specs.Card.{Card, count_of, heard_at, number_at, heard_to, sequence_to, line_code, Whole, Nearest, TrueSums}
use Rattle.card.specs.Check.{fits, step_holds, sum_to, follows, accepts}
use Rattle.card.specs.Promise.{Checks}
use Rattle.card.proofs.Bounds.{bounds, least_zero, least-rises}
use Rattle.card.proofs.Tests.{long-is, is-long}
use Rattle.card.proofs.Steps.{Stepped, step_is, is-step, all-allowed, allowed_all, sum_is}

module _ (k : Accord) (c : Card) where
  abbrev n : ℕ
  n = count_of c

  abbrev sum : ℕ
  sum = cost (line_code k) (heard_to c n) (sequence_to c n)

  first-number : (s : ℕ) → get_or c.numbers s 0 ≡ number_at c 0 s
  first-number s = ap (λ (j : ℕ). get_or c.numbers j 0) (let e : s ≡ 0 + s = omega arith in e)

  -- what the check tests, in the words of the theory
  record Passed : Type 0 where
    long : fits c ≡ true
    agreed : is_accord k ≡ true
    zero : (s : ℕ) → s < 16 → number_at c 0 s ≡ 0
    steps : (i : ℕ) → i < n → Stepped k c i
    low : (s : ℕ) → s < 16 → sum ≤ number_at c n s

  passed_is : accepts k c ≡ true → Passed
  unfolding accepts follows
  passed_is e =
      let (l, e₁) = and_both (fits c) _ e in
      let (a, e₂) = and_both (is_accord k) _ e₁ in
      let (z, e₃) = and_both (starts_at_zero c.numbers) _ e₂ in
      let (t, d) = and_both (every_below (step_holds k c) n) _ e₃ in
      record {
        long = l;
        agreed = a;
        zero = λ s h. sym (first-number s) ∙ zero_is c.numbers z s h;
        steps = λ i h. step_is k c i (every-all (step_holds k c) n t i h);
        low = λ s h. omega (arith, none_is c.numbers (16 * n) (sum_to k c n) d s h, sum_is k c n);
      }

  is-passed : Passed → accepts k c ≡ true
  unfolding accepts follows
  is-passed p =
      joined p.long
      (joined p.agreed
      (joined (is_zero c.numbers (λ s h. first-number s ∙ p.zero s h))
      (joined (all-every (step_holds k c) n (λ i h. is-step k c i (p.steps i h)))
      (is_none c.numbers (16 * n) (sum_to k c n) (λ s h. omega (arith, p.low s h, sum_is k c n))))))

  -- ---- sound

  passed-whole : Passed → Whole k c
  passed-whole p =
      let l = long-is _ _ _ _ _ p.long in
      record {
        agreed = p.agreed;
        some = l.some;
        few = l.few;
        coordinates-long = l.coordinates-long;
        states-long = l.states-long;
        symbols-long = l.symbols-long;
        numbers-long = l.numbers-long;
        in-range = λ i h. (p.steps i h).in-range;
      }

  passed-nearest : Passed → Nearest k c
  passed-nearest p =
      let some = (long-is _ _ _ _ _ p.long).some in
      record {
        allowed = all-allowed k c n (p.steps 0 some).carried.from-state (λ i h. (p.steps i h).carried);
        least = λ q a.
            omega (
              arith,
              p.low (last q) (allowed-below (line_code k) (heard_to c n) q a),
              bounds (search_of k free) (laws k free) (heard_at c) (number_at c) p.zero n (λ i h. (p.steps i h).rises) q a,
            );
      }

  pub sound-whole : accepts k c ≡ true → Whole k c
  sound-whole e = passed-whole (passed_is e)

  pub sound-nearest : accepts k c ≡ true → Nearest k c
  sound-nearest e = passed-nearest (passed_is e)

  -- ---- complete

  pub complete : Whole k c → TrueSums k c → Nearest k c → accepts k c ≡ true
  complete w t m =
      is-passed record {
        long = is-long _ _ _ _ _ (record {
          some = w.some;
          few = w.few;
          coordinates-long = w.coordinates-long;
          states-long = w.states-long;
          symbols-long = w.symbols-long;
          numbers-long = w.numbers-long;
        });
        agreed = w.agreed;
        zero = λ s h. least_zero (search_of k free) (laws k free) (heard_at c) (number_at c) s (t 0 s (omega arith) h);
        steps = λ i h. record {
          in-range = w.in-range i h;
          carried = allowed_all k c n m.allowed i h;
          rises = λ s s' g b.
              least-rises (search_of k free) (laws k free) (heard_at c) (number_at c) i s s' g b (t (suc i) s' h g)
              (t i s (omega arith) ((laws k free).preds-below s s' g b));
        };
        low = λ s h. let l = t n s (omega arith) h in omega (arith, m.least l.by l.allowed, l.sum);
      }

  -- ---- the promise

  pub checks : (r : Bool) → r ≡ accepts k c → Checks k c r
  checks r e =
      record {
        always = e;
        whole = λ t. sound-whole (sym e ∙ t);
        nearest = λ t. sound-nearest (sym e ∙ t);
        complete = λ w t m. e ∙ complete w t m;
      }

  pub checks-settled : (r r' : Bool) → Checks k c r → Checks k c r' → r ≡ r'
  checks-settled r r' p q = p.always ∙ sym q.always
