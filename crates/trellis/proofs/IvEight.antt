-- With a free start a list of symbols is allowed exactly if each five in a row meet IV-8 (T5). Forward: W4 four steps on is what
-- IV-8 says. Backward: four symbols fix a first state; one more symbol in front finds the state before.
--   allowed-valid, allowed-fives   what is allowed can be sent, and meets IV-8, from whichever first state
--   fives-allowed                  what can be sent and meets IV-8 is allowed with a free start
--   iv-eight                       the two together
--   four-allowed                   up to four symbols anything is allowed
use mathlib.Core.Path.{◌≡◌, refl, sym, ap, subst, ◌∙◌}
use mathlib.Core.List.{List, [], ◌∷◌, ◌++◌, map}
use mathlib.Core.Logic.{◌↔◌}
use Prim.Native.Nat.{ℕ, ◌+◌, ◌*◌, ◌%◌, ◌≤◌, ◌<◌}
use native.Mathlib.Omega.{arith}
use lib.ListN.{length, length-map}
use lib.Pow.{pow_pos}
use Rattle.trellis.specs.Lists.{Every}
use Rattle.trellis.specs.Measure.{free}
use Rattle.trellis.specs.IvEight.{Bits, Meets, MeetsFirst, Fives, bits_of}
use Rattle.trellis.specs.Allowed.{Allows}
use Rattle.wei.specs.State.{state_of, bit_w1, bit_w2, bit_w3, bit_w4, next_state, before}
use Rattle.wei.specs.Symbol.{Symbol, Valid, AllowedFrom}
use Rattle.wei.proofs.Finite.{equal3}
use Rattle.wei.proofs.States.{before-below}

-- ── the bits of the next state ──
next-w4 : (s i j : ℕ) → bit_w4 (next_state s i j) ≡ (bit_w1 s + bit_w3 s + i) % 2
unfolding next_state
next-w4 s i j = omega arith

next-w3 : (s i j : ℕ) → bit_w3 (next_state s i j) ≡ (bit_w2 s + j) % 2
unfolding next_state
next-w3 s i j = omega arith

next-w2 : (s i j : ℕ) → bit_w2 (next_state s i j) ≡ bit_w4 s
unfolding next_state
next-w2 s i j = omega arith

next-w1 : (s i j : ℕ) → bit_w1 (next_state s i j) ≡ bit_w3 s
unfolding next_state
next-w1 s i j = omega arith

-- sums modulo 2
mod-sum : (m n k : ℕ) → (m % 2 + n % 2 + k) % 2 ≡ (m + n + k) % 2
mod-sum m n k = omega arith

twice : (x y : ℕ) → x < 2 → ((x + y) % 2 + y) % 2 ≡ x
twice x y h = omega arith

-- W4 three steps on, from W2 and W4
three : (s b₁ b₂ c₁ c₂ d₁ d₂ : ℕ) → bit_w4 (next_state (next_state (next_state s b₁ b₂) c₁ c₂) d₁ d₂) ≡ (bit_w4 s + c₂ + bit_w2 s + b₂ + d₁) % 2
three s b₁ b₂ c₁ c₂ d₁ d₂ =
    let s₂ = next_state s b₁ b₂ in
    let s₃ = next_state s₂ c₁ c₂ in
    let w₁ : bit_w1 s₃ ≡ (bit_w2 s + b₂) % 2 = next-w1 s₂ c₁ c₂ ∙ next-w3 s b₁ b₂ in
    let w₃ : bit_w3 s₃ ≡ (bit_w4 s + c₂) % 2 = next-w3 s₂ c₁ c₂ ∙ ap (λ (x : ℕ). (x + c₂) % 2) (next-w2 s b₁ b₂) in
    let e : bit_w2 s + b₂ + (bit_w4 s + c₂) + d₁ ≡ bit_w4 s + c₂ + bit_w2 s + b₂ + d₁ = omega arith in
    next-w4 s₃ d₁ d₂ ∙ rw (w₁, w₃) (mod-sum (bit_w2 s + b₂) (bit_w4 s + c₂) d₁) ∙ ap (λ (n : ℕ). n % 2) e

-- ── allowed, so IV-8 ──
module _ (u : ℕ) where
  -- one symbol and those behind it
  allowed-cons : (s : ℕ) (c : Symbol) (cs : List Symbol) → Valid u c → c.y0 ≡ bit_w4 s → AllowedFrom u (next_state s c.i1 c.i2) cs → AllowedFrom u s (c ∷ cs)
  allowed-cons s c cs v e a = (record { valid = v; parity = e; leads = refl }, a)

  pub allowed-valid : (s : ℕ) (cs : List Symbol) → AllowedFrom u s cs → Every (Valid u) cs
  allowed-valid s [] a = tt
  allowed-valid s (c ∷ cs) a = (a.0.valid, allowed-valid (next_state s c.i1 c.i2) cs a.1)

  allowed-first : (s : ℕ) (cs : List Symbol) → AllowedFrom u s cs → MeetsFirst (map bits_of cs)
  allowed-first s [] r = tt
  allowed-first s (a ∷ []) r = tt
  allowed-first s (a ∷ b ∷ []) r = tt
  allowed-first s (a ∷ b ∷ c ∷ []) r = tt
  allowed-first s (a ∷ b ∷ c ∷ d ∷ []) r = tt
  allowed-first s (a ∷ b ∷ c ∷ d ∷ e ∷ l) r =
      let s₂ = next_state s a.i1 a.i2 in
      let z₂ : bit_w2 s₂ ≡ a.y0 = next-w2 s a.i1 a.i2 ∙ sym r.0.parity in
      let z₄ : bit_w4 s₂ ≡ b.y0 = sym r.1.0.parity in
      r.1.1.1.1.0.parity ∙ three s₂ b.i1 b.i2 c.i1 c.i2 d.i1 d.i2 ∙ rw (z₂, z₄)

  pub allowed-fives : (s : ℕ) (cs : List Symbol) → AllowedFrom u s cs → Fives (map bits_of cs)
  allowed-fives s [] r = tt
  allowed-fives s (a ∷ l) r = (allowed-first s (a ∷ l) r, allowed-fives (next_state s a.i1 a.i2) l r.1)

-- ── four symbols fix a first state ──
-- W4 is a's Y0; W2, W3 and W1 give d, c and b theirs
abbrev first_w2 : Symbol → Symbol → Symbol → Symbol → ℕ
first_w2 a b c d = (d.y0 + (a.y0 + b.i2 + a.i2 + c.i1)) % 2

abbrev first_w3 : Symbol → Symbol → Symbol → Symbol → ℕ
first_w3 a b c d = (c.y0 + (first_w2 a b c d + a.i2 + b.i1)) % 2

abbrev first_w1 : Symbol → Symbol → Symbol → Symbol → ℕ
first_w1 a b c d = (b.y0 + (first_w3 a b c d + a.i1)) % 2

first_state : Symbol → Symbol → Symbol → Symbol → ℕ
first_state a b c d = state_of (first_w1 a b c d) (first_w2 a b c d) (first_w3 a b c d) a.y0

record HasBits (s w x y z : ℕ) : Type 0 where
  below : s < 16
  w1-is : bit_w1 s ≡ w
  w2-is : bit_w2 s ≡ x
  w3-is : bit_w3 s ≡ y
  w4-is : bit_w4 s ≡ z

made : (w x y z : ℕ) → w < 2 → x < 2 → y < 2 → z < 2 → HasBits (state_of w x y z) w x y z
made w x y z hw hx hy hz = omega arith

bit : (n : ℕ) → n % 2 < 2
bit n = omega arith

module _ (u : ℕ) where
  module _ (a b c d : Symbol) (va : Valid u a) (vb : Valid u b) (vc : Valid u c) (vd : Valid u d) where
    abbrev s : ℕ
    s = first_state a b c d

    abbrev s₂ : ℕ
    s₂ = next_state s a.i1 a.i2

    abbrev s₃ : ℕ
    s₃ = next_state s₂ b.i1 b.i2

    bits : HasBits (first_state a b c d) (first_w1 a b c d) (first_w2 a b c d) (first_w3 a b c d) a.y0
    unfolding first_state
    bits = made (first_w1 a b c d) (first_w2 a b c d) (first_w3 a b c d) a.y0 (bit _) (bit _) (bit _) va.y0-below

    at_b : bit_w4 s₂ ≡ b.y0
    at_b =
        let e : first_w1 a b c d + first_w3 a b c d + a.i1 ≡ first_w1 a b c d + (first_w3 a b c d + a.i1) = omega arith in
        next-w4 s a.i1 a.i2 ∙ rw (bits.w1-is, bits.w3-is, e) (twice b.y0 (first_w3 a b c d + a.i1) vb.y0-below)

    at_c : bit_w4 s₃ ≡ c.y0
    at_c =
        let w₁ : bit_w1 s₂ ≡ first_w3 a b c d = next-w1 s a.i1 a.i2 ∙ bits.w3-is in
        let w₃ : bit_w3 s₂ ≡ (first_w2 a b c d + a.i2) % 2 = next-w3 s a.i1 a.i2 ∙ rw bits.w2-is in
        next-w4 s₂ b.i1 b.i2 ∙ rw (w₁, w₃) (folded c.y0 (first_w2 a b c d + a.i2) b.i1 vc.y0-below)
      where
        folded : (x y z : ℕ) → x < 2 → ((x + (y + z)) % 2 + y % 2 + z) % 2 ≡ x
        folded x y z h = omega arith

    at-d : bit_w4 (next_state s₃ c.i1 c.i2) ≡ d.y0
    at-d =
        let e : a.y0 + b.i2 + first_w2 a b c d + a.i2 + c.i1 ≡ first_w2 a b c d + (a.y0 + b.i2 + a.i2 + c.i1) = omega arith in
        three s a.i1 a.i2 b.i1 b.i2 c.i1 c.i2 ∙ rw (bits.w2-is, bits.w4-is, e) (twice d.y0 (a.y0 + b.i2 + a.i2 + c.i1) vd.y0-below)

    four : Allows u free (a ∷ b ∷ c ∷ d ∷ [])
    four =
        record {
          from = s;
          from-below = bits.below;
          from_start = tt;
          allowed =
              allowed-cons u s a (b ∷ c ∷ d ∷ []) va (sym bits.w4-is) (
              allowed-cons u s₂ b (c ∷ d ∷ []) vb (sym at_b) (
              allowed-cons u s₃ c (d ∷ []) vc (sym at_c) (allowed-cons u (next_state s₃ c.i1 c.i2) d [] vd (sym at-d) tt)
              )
              );
        }

  -- fewer than four: fill up with any
  front-allowed : (s : ℕ) (l m : List Symbol) → AllowedFrom u s (l ++ m) → AllowedFrom u s l
  front-allowed s [] m r = tt
  front-allowed s (a ∷ l) m r = (r.0, front-allowed (next_state s a.i1 a.i2) l m r.1)

  fewer : (l m : List Symbol) → Allows u free (l ++ m) → Allows u free l
  fewer l m k = record { from = k.from; from-below = k.from-below; from_start = tt; allowed = front-allowed k.from l m k.allowed }

  any : Symbol
  any = record { y0 = 0; i1 = 0; i2 = 0; i3 = 0; w1 = 0; w2 = 0 }

  any-valid : Valid u any
  unfolding any
  any-valid = record { y0-below = omega arith; i1-below = omega arith; i2-below = omega arith; i3-below = omega arith; w1-below = pow_pos u; w2-below = pow_pos u }

  -- ── one more symbol in front of four or more ──
  -- the state before t with these bits, and its W4
  earlier : ℕ → ℕ → ℕ → ℕ
  earlier t i j = before t (2 * ((bit_w4 t + bit_w1 t + i) % 2) + (bit_w3 t + j) % 2)

  earlier-leads : (t i j : ℕ) → t < 16 → i < 2 → j < 2 → next_state (earlier t i j) i j ≡ t
  unfolding earlier next_state before
  earlier-leads = equal3 16 2 2 (λ t i j. next_state (earlier t i j) i j) (λ t i j. t) tt

  earlier-w4 : (t i j : ℕ) → bit_w4 (earlier t i j) ≡ bit_w2 t
  unfolding earlier before
  earlier-w4 t i j = omega arith

  earlier-below : (t i j : ℕ) → t < 16 → earlier t i j < 16
  unfolding earlier
  earlier-below t i j h = before-below t _ h (omega arith)

  same_bit : (x y k : ℕ) → x < 2 → y < 2 → (x + k) % 2 ≡ (y + k) % 2 → x ≡ y
  same_bit x y k h l e = sym (twice x k h) ∙ rw e (twice y k l)

  in-front : (a b c d e : Symbol) (l : List Symbol) → Valid u a → Meets (bits_of a) (bits_of b) (bits_of c) (bits_of d) (bits_of e) → Allows u free (b ∷ c ∷ d ∷ e ∷ l) →
      Allows u free (a ∷ b ∷ c ∷ d ∷ e ∷ l)
  in-front a b c d e l va m r =
      let t = r.from in
      let k = b.y0 + c.i2 + b.i2 + d.i1 in
      let p₁ : e.y0 ≡ (bit_w2 t + k) % 2 = r.allowed.1.1.1.0.parity ∙ three t b.i1 b.i2 c.i1 c.i2 d.i1 d.i2 ∙ rw (← r.allowed.0.parity) (regroup (bit_w2 t)) in
      let p₂ : e.y0 ≡ (a.y0 + k) % 2 = m ∙ regroup a.y0 in
      let w : a.y0 ≡ bit_w2 t = same_bit a.y0 (bit_w2 t) k va.y0-below (bit _) (sym p₂ ∙ p₁) in
      let back = earlier-leads t a.i1 a.i2 r.from-below va.i1-below va.i2-below in
      record {
        from = earlier t a.i1 a.i2;
        from-below = earlier-below t a.i1 a.i2 r.from-below;
        from_start = tt;
        allowed =
            allowed-cons u (earlier t a.i1 a.i2) a (b ∷ c ∷ d ∷ e ∷ l) va (w ∙ sym (earlier-w4 t a.i1 a.i2))
            (subst (λ (x : ℕ). AllowedFrom u x (b ∷ c ∷ d ∷ e ∷ l)) (sym back) r.allowed);
      }
    where
      regroup : (x : ℕ) → (b.y0 + c.i2 + x + b.i2 + d.i1) % 2 ≡ (x + (b.y0 + c.i2 + b.i2 + d.i1)) % 2
      regroup x = ap (λ (n : ℕ). n % 2) (let z : b.y0 + c.i2 + x + b.i2 + d.i1 ≡ x + (b.y0 + c.i2 + b.i2 + d.i1) = omega arith in z)

  -- ── IV-8, so allowed ──
  one_more : (a : Symbol) (l : List Symbol) → Valid u a → Every (Valid u) l → MeetsFirst (map bits_of (a ∷ l)) → Allows u free l → Allows u free (a ∷ l)
  one_more a [] va v m k = fewer (a ∷ []) (any ∷ any ∷ any ∷ []) (four a any any any va any-valid any-valid any-valid)
  one_more a (b ∷ []) va v m k = fewer (a ∷ b ∷ []) (any ∷ any ∷ []) (four a b any any va v.0 any-valid any-valid)
  one_more a (b ∷ c ∷ []) va v m k = fewer (a ∷ b ∷ c ∷ []) (any ∷ []) (four a b c any va v.0 v.1.0 any-valid)
  one_more a (b ∷ c ∷ d ∷ []) va v m k = four a b c d va v.0 v.1.0 v.1.1.0
  one_more a (b ∷ c ∷ d ∷ e ∷ l) va v m k = in-front a b c d e l va m k

  pub fives-allowed : (cs : List Symbol) → Every (Valid u) cs → Fives (map bits_of cs) → Allows u free cs
  fives-allowed [] v f = record { from = 0; from-below = omega arith; from_start = tt; allowed = tt }
  fives-allowed (a ∷ l) v f = one_more a l v.0 v.1 f.0 (fives-allowed l v.1 f.1)

  -- T5: exactly
  pub iv-eight : (cs : List Symbol) → Allows u free cs ↔ (Every (Valid u) cs × Fives (map bits_of cs))
  iv-eight cs = (λ k. (allowed-valid u k.from cs k.allowed, allowed-fives u k.from cs k.allowed), λ k. fives-allowed cs k.0 k.1)

  few-fives : (bs : List Bits) → length bs ≤ 4 → Fives bs
  few-fives [] h = tt
  few-fives (a ∷ []) h = (tt, tt)
  few-fives (a ∷ b ∷ []) h = (tt, (tt, tt))
  few-fives (a ∷ b ∷ c ∷ []) h = (tt, (tt, (tt, tt)))
  few-fives (a ∷ b ∷ c ∷ d ∷ []) h = (tt, (tt, (tt, (tt, tt))))
  few-fives (a ∷ b ∷ c ∷ d ∷ e ∷ l) h = absurd (omega arith)

  -- "so up to four symbols anything is allowed"
  pub four-allowed : (cs : List Symbol) → Every (Valid u) cs → length cs ≤ 4 → Allows u free cs
  four-allowed cs v h = fives-allowed cs v (few-fives (map bits_of cs) (rw length-map h))
