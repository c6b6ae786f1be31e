-- Laws of tokens.
use Prim.Native.Nat.{ℕ, suc, ◌+◌, ◌-◌, ◌≤◌, ◌<◌}
use mathlib.Core.Path.{◌≡◌, refl, sym, ap}
use mathlib.Core.Bool.{Bool, true, false, cond, ◌&&◌}
use mathlib.Core.List.{List, [], ◌∷◌}
use native.Mathlib.Omega.{arith}
use borrow.Author.Tests.{eqb-true, ltb-true, ltb-false, le-ltb}
use lib.Dec.{eqb, ltb}
use lib.ListN.{length, take, drop, length-drop}
use lib.Seq.{take_all, length-take-le}
use Rattle.text.specs.Number.{digit_of, is_below, only_digits, number_of, hex_of}
use Rattle.std.specs.Prelude.{Some, None, unwrap_or, nat_eq}
use Rattle.std.specs.List.{position_or_len}
use Rattle.std.specs.Cmp.Lexicographic.{pointwise}
use Rattle.std.proofs.lemmas.List.Recursion.{is_position_or_len}
use Rattle.text.proofs.Digits.{both, to_end, no_digit, bad-bytes}
use Rattle.text.specs.Token.{in_front, tokens, length_before, Cuts, same_bytes}

pub at-most-all : (c : ℕ) (s : List ℕ) → length_before c s ≤ length s
at-most-all c [] = omega arith
at-most-all c (b ∷ s) = by (eqb b c) (at-most-all c s) where
  by : (t : Bool) → length_before c s ≤ length s → cond t 0 (suc (length_before c s)) ≤ suc (length s)
  by true h = omega arith
  by false h = omega arith

is-position : (c : ℕ) (s : List ℕ) → length_before c s ≡ position_or_len (λ x. eqb x c) s
is-position c s = is_position_or_len (length_before c) (λ x. eqb x c) refl (λ x xs. step (eqb x c) (length_before c xs)) s where
  step : (t : Bool) (n : ℕ) → cond t 0 (suc n) ≡ cond t 0 (1 + n)
  step true n = refl
  step false n = omega arith

-- the place of the first c, or the length where there is none
pub cuts : (c : ℕ) (s : List ℕ) → Cuts c s (unwrap_or (cond (ltb (position_or_len (λ x. eqb x c) s) (length s)) (Some (position_or_len (λ x. eqb x c) s)) None) (length s))
cuts c s = rw (← is-position c s) (by (ltb (length_before c s) (length s)) refl) where
  cut : (r : ℕ) → r ≡ length_before c s → Cuts c s r
  cut r e = let within : r ≤ length s = omega (arith, e, at-most-all c s) in
      record { is = e; within = within; count = sym (length-take-le r s within) }

  by : (t : Bool) → ltb (length_before c s) (length s) ≡ t → Cuts c s (unwrap_or (cond t (Some (length_before c s)) None) (length s))
  by true e = cut _ refl
  by false e = cut _ (omega (arith, at-most-all c s, ltb-false (length_before c s) (length s) e))

-- what stands at `from` before a byte c ends in s
pub token_end : (s : List ℕ) (from : ℕ) {c n : ℕ} → from ≤ length s → Cuts c (take (length s - from) (drop from s)) n → from + n ≤ length s
token_end s from h cut = omega (arith, cut.within, ap length (to_end from s), length-drop from s)

pub same-pointwise : (a b : List ℕ) → pointwise nat_eq a b ≡ same_bytes a b
same-pointwise [] [] = refl
same-pointwise [] (y ∷ b) = refl
same-pointwise (x ∷ a) [] = refl
same-pointwise (x ∷ a) (y ∷ b) = rw (same-pointwise a b) (by (eqb x y) (same_bytes a b)) where
  by : (t u : Bool) → (t && u) ≡ cond t u false
  by true u = refl
  by false u = refl

-- where there is no space, all is one token
pub last-token : (s : List ℕ) → length_before 32 s ≡ length s → tokens s ≡ s ∷ []
last-token [] h = refl
last-token (b ∷ s) h = by (eqb b 32) (last-token s) h where
  by : (t : Bool) → (length_before 32 s ≡ length s → tokens s ≡ s ∷ []) → cond t 0 (suc (length_before 32 s)) ≡ suc (length s)
      → cond t ([] ∷ tokens s) (in_front b (tokens s)) ≡ (b ∷ s) ∷ []
  by true f h = absurd (omega arith)
  by false f h = rw (f (omega arith))

-- where there is one, a token and the tokens after it
pub more-tokens : (s : List ℕ) → length_before 32 s < length s → tokens s ≡ take (length_before 32 s) s ∷ tokens (drop (suc (length_before 32 s)) s)
more-tokens [] h = absurd (omega arith)
more-tokens (b ∷ s) h = by (eqb b 32) (more-tokens s) h where
  by : (t : Bool) → (length_before 32 s < length s → tokens s ≡ take (length_before 32 s) s ∷ tokens (drop (suc (length_before 32 s)) s))
      → cond t 0 (suc (length_before 32 s)) < suc (length s)
      → cond t ([] ∷ tokens s) (in_front b (tokens s)) ≡ take (cond t 0 (suc (length_before 32 s))) (b ∷ s) ∷ tokens (drop (suc (cond t 0 (suc (length_before 32 s)))) (b ∷ s))
  by true f h = refl
  by false f h = rw (f (omega arith))

pub not-empty : (s : List ℕ) → length (tokens s) ≡ 0 → ⊥
not-empty [] h = omega arith
not-empty (b ∷ s) h = by (eqb b 32) (tokens s) h where
  by : (t : Bool) (ts : List (List ℕ)) → length (cond t ([] ∷ ts) (in_front b ts)) ≡ 0 → ⊥
  by true ts g = omega arith
  by false [] g = omega arith
  by false (t ∷ ts) g = omega arith

-- the first token
pub first-token : (t : List ℕ) (n : ℕ) → n ≡ length_before 32 t → (ts : List (List ℕ)) × (tokens t ≡ take n t ∷ ts)
first-token t n e = by (ltb n (length t)) refl where
  by : (b : Bool) → ltb n (length t) ≡ b → (ts : List (List ℕ)) × (tokens t ≡ take n t ∷ ts)
  by true h = (tokens (drop (suc n) t), rw e (more-tokens t (omega (arith, ltb-true n (length t) h))))
  by false h =
      let all : n ≡ length t = omega (arith, ltb-false n (length t) h, at-most-all 32 t) in
      ([], rw (take_all n t (omega arith)) (last-token t (omega arith)))

-- a text with a space writes no number
module _ (base : ℕ) (small : base ≤ 16) where
  spaced-digits : (s : List ℕ) → length_before 32 s < length s → only_digits base s ≡ false
  spaced-digits [] h = absurd (omega arith)
  spaced-digits (b ∷ s) h = by (eqb b 32) refl (spaced-digits s) h where
    by : (t : Bool) → eqb b 32 ≡ t → (length_before 32 s < length s → only_digits base s ≡ false) → cond t 0 (suc (length_before 32 s)) < suc (length s)
        → cond (is_below base (digit_of b)) (only_digits base s) false ≡ false
    by true e f g =
        let space : b ≡ 32 = eqb-true b 32 e in
        let none = no_digit b (λ p q. omega arith) (λ p q. omega arith) (λ p q. omega arith) in
        rw (← none, le-ltb 16 base small)
    by false e f g = rw (f (omega arith)) (sym (both (is_below base (digit_of b)) false))

  pub spaced-number : (most : ℕ) (s : List ℕ) → length_before 32 s < length s → None ≡ number_of base most s
  spaced-number most s h = bad-bytes base most s (spaced-digits s h)

pub spaced-hex : (s : List ℕ) → length_before 32 s < length s → None ≡ hex_of s
unfolding hex_of
spaced-hex s h = rw (← spaced-number 16 (omega arith) 4294967295 s h) (both (eqb (length s) 8) None)
