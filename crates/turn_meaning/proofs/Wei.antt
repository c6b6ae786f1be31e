-- A quarter turn is a symmetry of Wei's code with a free start: Y0 and I1 stay, the labels of both points gain 1, and W1 and W3 of the
-- state flip. It holds for any measure of two points whose distance stays when the received point, the label and the number are turned.
--   state_turned s        the state s with W1 and W3 flipped
--   symbol_turned tw c    the symbol of the turned points of c, where tw takes a number to that of the turned point
--   first-turned, last-turned     both labels gain 1
--   carries-turned       turned symbols carry turned states
--   Turns                what a distance and the turn of what it measures must obey
--   quarter              the symmetry
use mathlib.Core.Path.{◌≡◌, ap, ap₂, ◌∙◌}
use Prim.Native.Nat.{ℕ, ◌+◌, ◌/◌, ◌%◌, ◌^◌, ◌<◌}
use native.Mathlib.Omega.{arith}
use Rattle.wei.specs.State.{state_of, bit_w1, bit_w2, bit_w3, bit_w4, next_state}
use Rattle.wei.specs.Label.{second_label}
use Rattle.wei.specs.Symbol.{Symbol, first_label, last_label, Valid, Carries}
use Rattle.wei.proofs.Finite.{equal3}
use Rattle.wei.proofs.Labels.{second_below, labels_apart}
use Rattle.trellis.specs.Measure.{free, Two, pairs, wei_code, first_far, second_far, far_of}
use Rattle.turn_meaning.specs.Turned.{times, two_turned}
use Rattle.turn_meaning.proofs.Symmetry.{Symmetry}

-- ---- states

unfoldable pub state_turned : ℕ → ℕ
state_turned s = state_of ((bit_w1 s + 1) % 2) (bit_w2 s) ((bit_w3 s + 1) % 2) (bit_w4 s)

pub state-below : (s : ℕ) → state_turned s < 16
unfolding state_turned
state-below s = omega arith

parity-kept : (s : ℕ) → bit_w4 s ≡ bit_w4 (state_turned s)
unfolding state_turned
parity-kept s = omega arith

next-turned : (s i1 i2 : ℕ) → s < 16 → i1 < 2 → i2 < 2 → next_state (state_turned s) i1 ((i2 + 1) % 2) ≡ state_turned (next_state s i1 i2)
unfolding state_turned next_state
next-turned = equal3 16 2 2 (λ s i1 i2. next_state (state_turned s) i1 ((i2 + 1) % 2)) (λ s i1 i2. state_turned (next_state s i1 i2)) tt

-- ---- symbols

pub label-below : (u : ℕ) (c : Symbol) → Valid u c → first_label c < 4
label-below u c v = omega (arith, v.i2-below, v.i3-below)

module _ (tw : ℕ → ℕ) where
  unfoldable pub symbol_turned : Symbol → Symbol
  symbol_turned c =
      let q = (first_label c + 1) % 4 in
      record { y0 = c.y0; i1 = c.i1; i2 = q % 2; i3 = q / 2; w1 = tw c.w1; w2 = tw c.w2 }

  pub first-turned : (c : Symbol) → first_label (symbol_turned c) ≡ (first_label c + 1) % 4
  unfolding symbol_turned
  first-turned c = omega arith

  pub last-turned : (c : Symbol) → last_label (symbol_turned c) ≡ (last_label c + 1) % 4
  unfolding last_label second_label symbol_turned
  last-turned c = omega arith

  module _ (u : ℕ) (below : (w : ℕ) → w < 2 ^ u → tw w < 2 ^ u) where
    pub valid-turned : (c : Symbol) → Valid u c → Valid u (symbol_turned c)
    unfolding symbol_turned
    valid-turned c v =
        record {
          y0-below = v.y0-below;
          i1-below = v.i1-below;
          i2-below = omega arith;
          i3-below = omega arith;
          w1-below = below c.w1 v.w1-below;
          w2-below = below c.w2 v.w2-below;
        }

    leads-turned : (s : ℕ) (c : Symbol) → s < 16 → Valid u c →
        next_state (state_turned s) (symbol_turned c).i1 (symbol_turned c).i2 ≡ state_turned (next_state s c.i1 c.i2)
    unfolding symbol_turned
    leads-turned s c h v =
        let e : (symbol_turned c).i2 ≡ (c.i2 + 1) % 2 = omega arith in
        ap (next_state (state_turned s) c.i1) e ∙ next-turned s c.i1 c.i2 h v.i1-below v.i2-below

    pub carries-turned : (s t : ℕ) (c : Symbol) → s < 16 → Carries u s t c → Carries u (state_turned s) (state_turned t) (symbol_turned c)
    unfolding symbol_turned
    carries-turned s t c h k =
        record {
          valid = valid-turned c k.valid;
          parity = k.parity ∙ parity-kept s;
          leads = leads-turned s c h k.valid ∙ ap state_turned k.leads;
        }

    -- ---- four turns are none

    label-four : (f : Symbol → ℕ) → ((c : Symbol) → f (symbol_turned c) ≡ (f c + 1) % 4) → (c : Symbol) → f c < 4 →
        f (times symbol_turned 4 c) ≡ f c
    label-four f e c h =
        let a = e c in
        let b = e (times symbol_turned 1 c) in
        let d = e (times symbol_turned 2 c) in
        let g = e (times symbol_turned 3 c) in
        omega arith

    pub symbol-four : ((w : ℕ) → w < 2 ^ u → times tw 4 w ≡ w) → (c : Symbol) → Valid u c → times symbol_turned 4 c ≡ c
    unfolding symbol_turned last_label
    symbol-four four c v =
        let w : Valid u (times symbol_turned 4 c) = valid-turned _ (valid-turned _ (valid-turned _ (valid-turned c v))) in
        labels_apart u u (times symbol_turned 4 c) c w v (label-four (λ x. first_label x) first-turned c (label-below u c v))
        (label-four last_label last-turned c (second_below (first_label c) c.y0 c.i1)) (four c.w1 v.w1-below) (four c.w2 v.w2-below)

-- ---- measures of two points

pub record Turns {P : Type 0} (u : ℕ) (d : P → ℕ → ℕ → ℕ) (tp : P → P) (tw : ℕ → ℕ) : Type 0 where
  pub below : (w : ℕ) → w < 2 ^ u → tw w < 2 ^ u
  pub number-four : (w : ℕ) → w < 2 ^ u → times tw 4 w ≡ w
  pub heard-four : (h : P) → times tp 4 h ≡ h
  pub as-far : (h : P) (l w : ℕ) → l < 4 → w < 2 ^ u → d (tp h) ((l + 1) % 4) (tw w) ≡ d h l w

module _ {P : Type 0} (u : ℕ) (d : P → ℕ → ℕ → ℕ) (n : ℕ → ℕ) (tp : P → P) (tw : ℕ → ℕ) (T : Turns u d tp tw) where
  first-kept : (y : Two P) (c : Symbol) → Valid u c → first_far P d (two_turned tp y) (symbol_turned tw c) ≡ first_far P d y c
  unfolding first_far symbol_turned
  first-kept y c v =
      ap (λ (l : ℕ). d (tp y.first) l (tw c.w1)) (first-turned tw c)
      ∙ T.as-far y.first (first_label c) c.w1 (label-below u c v) v.w1-below

  second-kept : (y : Two P) (c : Symbol) → Valid u c → second_far P d (two_turned tp y) (symbol_turned tw c) ≡ second_far P d y c
  unfolding second_far symbol_turned last_label
  second-kept y c v =
      ap (λ (l : ℕ). d (tp y.second) l (tw c.w2)) (last-turned tw c)
      ∙ T.as-far y.second (last_label c) c.w2 (second_below (first_label c) c.y0 c.i1) v.w2-below

  pub far-kept : (y : Two P) (c : Symbol) → Valid u c → far_of P d n (two_turned tp y) (symbol_turned tw c) ≡ far_of P d n y c
  unfolding far_of
  far-kept y c v = ap₂ (λ (a b : ℕ). n a + n b) (first-kept y c v) (second-kept y c v)

  pub two-four : (y : Two P) → times (two_turned tp) 4 y ≡ y
  two-four y = ap₂ {C = Two P} (λ (a b : P). record { first = a; second = b }) (T.heard-four y.first) (T.heard-four y.second)

  unfoldable pub quarter : Symmetry (wei_code u (pairs P d n) free)
  quarter =
      record {
        heard = two_turned tp;
        candidate = symbol_turned tw;
        state = state_turned;
        below = λ s h. state-below s;
        starts = λ s h. tt;
        carries = λ s t c h k b. carries-turned tw u T.below s t c h b;
        as-far = λ y s t c h k b. far-kept y c b.valid;
        heard-four = two-four;
        candidate-four = λ s t c h k b. symbol-four tw u T.below T.number-four c b.valid;
      }
