-- For callers: what follows from the meaning of a heard coordinate and a heard sample, so that no caller has to open the definitions of
-- specs/Heard.antt.
--   heard-in-range    whatever is given lies from -8192 to 8192
--   refused-exactly   refused are the floats that are no number, infinite, or rounded out of range, and no others
--   nan-refused, infinite-refused, nan-pattern-refused   in particular a NaN and both infinities; and each pattern of a NaN
--   heard-pattern     what is heard of a float is what the meaning says of any pattern that stands for it
--   zero-heard        both zeros give 0
--   heard-nearest     what is heard of ± m * 2 ^ e has its sign, and in size is nearest to 128 times it, and even at a half
--   point-heard, sample-point-heard   a whole number c up to 64 in size, as an f32, is heard as 128 c; no point has a coordinate above 39
--   sample-heard, first-refused, second-refused   what is given for a pair, by what is given for each
use mathlib.Core.Path.{◌≡◌, refl, sym, ap, ◌∙◌}
use mathlib.Core.Logic.{◌↔◌, ⊎_elim}
use Prim.Native.Nat.{ℕ, suc, ◌*◌, ◌^◌, ◌≤◌, ◌<◌}
use native.Mathlib.Nat.{le_of_eq, le_antisymm, mul-one}
use native.Mathlib.Omega.{arith}
use mathlib.Core.Bool.{Bool, true, false, not, cond}
use lib.IntN.{ℤ, pos, negsuc, nat_abs, ◌*ℤ◌}
use lib.Dec.{T, eqb, lit<}
use lib.Ieee.{Float, nan, inf, fin, binary32, up, down, of_bits, to_bits, of_int, fits, nan_bits}
use lib.Ieee.Fits.{and_l, down_pos, nan-fits, inf-fits, of_int-fits}
use lib.Ieee.Bits.{is_true, of_bits-fits}
use lib.Ieee.Exact.{HasValue}
use lib.Ieee.Back.{round_whole}
use Rattle.samples.specs.Nearest.{nearest_even, IsNearest}
use Rattle.samples.specs.Given.{GivenCoordinate, done, refused, both_done, refused_at}
use Rattle.samples.specs.Heard.{units, is_negative, field, digits, signed, in_range, heard_fields, heard_bits, heard_coordinate, both_or_fault, heard_sample}
use Rattle.samples.proofs.Nearest.{nearest-is, nearest-le, nearest-ge}
use Rattle.samples.proofs.Value.{size-signed, in-range, out_of_range, range-cases, by_value, of-value, of-bits, heard-value}

-- ---- the range
value-small : (s : Bool) (r : ℕ) → nat_abs (in_range s r).value ≤ 8192
value-small s r = ⊎_elim (λ c. rw (c.1, size-signed s r) c.0) (λ c. rw c.1 (omega arith)) (range-cases s r)

fields-small : (s : Bool) (x t : ℕ) → nat_abs (heard_fields s x t).value ≤ 8192
unfolding heard_fields
fields-small s x t = go (eqb x 255)
  where
    r : ℕ
    r = nearest_even (128 * units x t) (2 ^ 149)

    go : (b : Bool) → nat_abs (cond b refused (in_range s r)).value ≤ 8192
    go true = omega arith
    go false = value-small s r

pub heard-in-range : (v : Float) → nat_abs (heard_coordinate v).value ≤ 8192
unfolding heard_coordinate heard_bits
heard-in-range v =
    let b = to_bits binary32 v in
    fields-small (is_negative b) (field b) (digits b)

-- ---- what is refused
abbrev pub Unheard : Float → Type 0
Unheard nan = Unit
Unheard (inf s) = Unit
Unheard (fin s m e) = 8192 < nearest_even (m * up e * 128) (down e)

not_done : (z : ℤ) → done z ≡ refused → ⊥
not_done z e = let h : ◌≡◌ {A = ℕ} 0 5 = ap (λ (g : GivenCoordinate). g.number) e in omega arith

by-value-exactly : (v : Float) → (by_value v ≡ refused) ↔ Unheard v
by-value-exactly nan = (λ e. tt, λ h. refl)
by-value-exactly (inf s) = (λ e. tt, λ h. refl)
by-value-exactly (fin s m e) =
    let r = nearest_even (m * up e * 128) (down e) in
    (λ i. ⊎_elim (λ c. absurd (not_done (signed s r) (sym c.1 ∙ i))) (λ c. c.0) (range-cases s r), out_of_range s r)

pub refused-exactly : (v : Float) → T (fits binary32 v) → (heard_coordinate v ≡ refused) ↔ Unheard v
refused-exactly v f = rw (heard-value v f) (by-value-exactly v)

pub nan-refused : heard_coordinate nan ≡ refused
nan-refused = heard-value nan (nan-fits binary32)

pub infinite-refused : (s : Bool) → heard_coordinate (inf s) ≡ refused
infinite-refused s = heard-value (inf s) (inf-fits binary32 s)

pub nan-pattern-refused : (b : ℕ) → T (nan_bits binary32 b) → heard_bits b ≡ refused
unfolding nan_bits heard_bits heard_fields
nan-pattern-refused b h = rw (is_true (eqb (field b) 255) (and_l (eqb (field b) 255) (not (eqb (digits b) 0)) h))

-- ---- what is heard
pub heard-pattern : (b : ℕ) → heard_coordinate (of_bits binary32 b) ≡ heard_bits b
heard-pattern b = heard-value (of_bits binary32 b) (of_bits-fits binary32 b) ∙ of-bits b

pub zero-heard : (s : Bool) → heard_coordinate (fin s 0 (pos 0)) ≡ done (pos 0)
unfolding heard_coordinate to_bits
zero-heard false = refl
zero-heard true = refl

in-range-done : (s : Bool) (r : ℕ) (z : ℤ) → in_range s r ≡ done z → z ≡ signed s r
in-range-done s r z i = ⊎_elim (λ c. ap (λ (g : GivenCoordinate). g.value) (sym i ∙ c.1)) (λ c. absurd (not_done z (sym i ∙ c.1))) (range-cases s r)

pub heard-nearest : (s : Bool) (m : ℕ) (e z : ℤ) → T (fits binary32 (fin s m e)) → heard_coordinate (fin s m e) ≡ done z → (z ≡ signed s (nat_abs z)) × IsNearest (m * up e * 128) (down e) (nat_abs z)
heard-nearest s m e z f i =
    let n = m * up e * 128 in
    let d = down e in
    let is : z ≡ signed s (nearest_even n d) = in-range-done s (nearest_even n d) z (sym (heard-value (fin s m e) f) ∙ i) in
    let size : nat_abs z ≡ nearest_even n d = ap nat_abs is ∙ size-signed s (nearest_even n d) in
    (is ∙ ap (signed s) (sym size), rw size (nearest-is n d (down_pos e)))

whole_is : (a : ℕ) → nearest_even a 1 ≡ a
whole_is a = le_antisymm (nearest-le a 1 a (lit< tt) (le_of_eq (sym (mul-one a)))) (nearest-ge a 1 a (lit< tt) (le_of_eq (mul-one a)))

whole-heard : (x : Float) (s : Bool) (n : ℕ) → T (fits binary32 x) → HasValue x s n 1 → n ≤ 64 → heard_coordinate x ≡ done (signed s (128 * n))
whole-heard x s n f v h = heard-value x f ∙ of-value x s n 1 (lit< tt) v ∙ ap (in_range s) (whole_is (128 * n)) ∙ in-range s (128 * n) (omega arith)

pub point-heard : (c : ℤ) → nat_abs c ≤ 64 → heard_coordinate (of_int binary32 c) ≡ done (pos 128 *ℤ c)
unfolding of_int
point-heard (pos n) h = whole-heard (of_int binary32 (pos n)) false n (of_int-fits binary32 (pos n)) (round_whole binary32 false n (omega arith)) h
point-heard (negsuc n) h = whole-heard (of_int binary32 (negsuc n)) true (suc n) (of_int-fits binary32 (negsuc n)) (round_whole binary32 true (suc n) (omega arith)) h

-- ---- a pair
pub sample-heard : (x y : Float) (a b : ℤ) → heard_coordinate x ≡ done a → heard_coordinate y ≡ done b → heard_sample x y ≡ both_done a b
unfolding heard_sample
sample-heard x y a b p q = λ i. both_or_fault (p i) (q i)

pub first-refused : (x y : Float) → heard_coordinate x ≡ refused → heard_sample x y ≡ refused_at 0
unfolding heard_sample
first-refused x y p = λ i. both_or_fault (p i) (heard_coordinate y)

pub second-refused : (x y : Float) (a : ℤ) → heard_coordinate x ≡ done a → heard_coordinate y ≡ refused → heard_sample x y ≡ refused_at 1
unfolding heard_sample
second-refused x y a p q = λ i. both_or_fault (p i) (q i)

pub sample-point-heard : (c d : ℤ) → nat_abs c ≤ 64 → nat_abs d ≤ 64 → heard_sample (of_int binary32 c) (of_int binary32 d) ≡ both_done (pos 128 *ℤ c) (pos 128 *ℤ d)
sample-point-heard c d p q = sample-heard (of_int binary32 c) (of_int binary32 d) (pos 128 *ℤ c) (pos 128 *ℤ d) (point-heard c p) (point-heard d q)
