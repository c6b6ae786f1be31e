-- The tests of a symbol are what 01 asks of it.
--   valid-is, is-valid         the test of a symbol that can be sent, both ways
--   bits_in                    of a symbol that can be sent, the two bits that lead on
--   carries-is, is_carried     the test of a symbol between two states, both ways
--   valid_by                   a symbol between two states can be sent
--   joined                     two tests that both hold
use mathlib.Core.Path.{◌≡◌, ap₂}
use mathlib.Core.Bool.{Bool, true, ◌&&◌}
use Prim.Native.Nat.{ℕ, ◌^◌, ◌<◌}
use borrow.Author.Tests.{lt-ltb, ltb-true, eq-eqb, eqb-true}
use lib.Dec.{eqb, ltb}
use Rattle.wei.specs.State.{bit_w4, next_state}
use Rattle.wei.specs.Symbol.{Symbol, Valid, Carries}
use Rattle.lists.proofs.UpTo.{and_both}
use Rattle.card_symbol.specs.Chosen.{is_valid, carries}

pub joined : {a b : Bool} → a ≡ true → b ≡ true → (a && b) ≡ true
joined p q = ap₂ (λ (a b : Bool). a && b) p q

module _ (u : ℕ) (c : Symbol) where
  pub valid-is : is_valid u c ≡ true → Valid u c
  unfolding is_valid
  valid-is e =
      let (e₄, w₂) = and_both _ (ltb c.w2 (2 ^ u)) e in
      let (e₃, w₁) = and_both _ (ltb c.w1 (2 ^ u)) e₄ in
      let (e₂, i₃) = and_both _ (ltb c.i3 2) e₃ in
      let (e₁, i₂) = and_both _ (ltb c.i2 2) e₂ in
      let (y₀, i₁) = and_both (ltb c.y0 2) (ltb c.i1 2) e₁ in
      record {
        y0-below = ltb-true _ _ y₀;
        i1-below = ltb-true _ _ i₁;
        i2-below = ltb-true _ _ i₂;
        i3-below = ltb-true _ _ i₃;
        w1-below = ltb-true _ _ w₁;
        w2-below = ltb-true _ _ w₂;
      }

  pub bits_in : is_valid u c ≡ true → (c.i1 < 2) × (c.i2 < 2)
  bits_in e = let v = valid-is e in (v.i1-below, v.i2-below)

  pub is-valid : Valid u c → is_valid u c ≡ true
  unfolding is_valid
  is-valid v =
      joined
      (joined (joined (joined (joined (lt-ltb _ _ v.y0-below) (lt-ltb _ _ v.i1-below)) (lt-ltb _ _ v.i2-below)) (lt-ltb _ _ v.i3-below)) (lt-ltb _ _ v.w1-below))
      (lt-ltb _ _ v.w2-below)

  module _ (s t : ℕ) where
    pub carries-is : carries u s t c ≡ true → (s < 16) × Carries u s t c
    unfolding carries
    carries-is e =
        let (front, back) = and_both (is_valid u c && ltb s 16) _ e in
        let (v, h) = and_both (is_valid u c) (ltb s 16) front in
        let (p, l) = and_both (eqb c.y0 (bit_w4 s)) (eqb (next_state s c.i1 c.i2) t) back in
        (ltb-true s 16 h, record { valid = valid-is v; parity = eqb-true _ _ p; leads = eqb-true _ _ l })

    pub valid_by : carries u s t c ≡ true → Valid u c
    valid_by e = (carries-is e).1.valid

    pub is_carried : s < 16 → Carries u s t c → carries u s t c ≡ true
    unfolding carries
    is_carried h b = joined (joined (is-valid b.valid) (lt-ltb s 16 h)) (joined (eq-eqb _ _ b.parity) (eq-eqb _ _ b.leads))
