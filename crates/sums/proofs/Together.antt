-- Whether all numbers of a list are below a power of two, by their bits together.
--   high                      that power
--   together, together-ends   the test on the bits of those passed, and of the rest
use mathlib.Core.Path.{◌≡◌, refl, sym, ap, ap₂, ◌∙◌}
use mathlib.Core.Bool.{Bool, true, false, ◌&&◌}
use mathlib.Core.List.{List}
use Prim.Native.Nat.{ℕ, suc, ◌+◌, ◌-◌, ◌≤◌, ◌<◌}
use native.Mathlib.Omega.{arith}
use native.Mathlib.Numerals.{add-one}
use lib.Bits.{bit_or, or_lt, or_add_and, and_le_l, and_le_r}
use lib.Dec.{leb, ltb}
use lib.ListN.{length, get_or, drop, drop_of_length-le}
use lib.Seq.{drop-cons}
use borrow.Author.Tests.{lt-ltb, le-ltb, ltb-true, ltb-false, leb-true, leb-false}
use Rattle.lists.specs.UpTo.{all_up_to}

abbrev pub high : ℕ
high = 268435456

and-swap : (a b c : Bool) → ((a && b) && c) ≡ (a && (b && c))
and-swap true b c = refl
and-swap false b c = refl

or-below : (a b : ℕ) → ltb (bit_or a b) high ≡ (ltb a high && leb b (high - 1))
or-below a b = go (ltb a high) (leb b (high - 1)) refl refl
  where
    go : (x y : Bool) → ltb a high ≡ x → leb b (high - 1) ≡ y → ltb (bit_or a b) high ≡ (x && y)
    go true true p q = lt-ltb (bit_or a b) high (or_lt 28 a b (ltb-true a high p) (omega (arith, leb-true b (high - 1) q)))
    go true false p q = le-ltb (bit_or a b) high (omega (arith, leb-false b (high - 1) q, or_add_and a b, and_le_l a b))
    go false y p q = le-ltb (bit_or a b) high (omega (arith, ltb-false a high p, or_add_and a b, and_le_r a b))

module _ (l : List ℕ) (i d : ℕ) where
  pub together : i < length l → (ltb d high && all_up_to (high - 1) (drop i l)) ≡ (ltb (bit_or d (get_or l i 0)) high && all_up_to (high - 1) (drop (i + 1) l))
  unfolding all_up_to
  together h =
      ap (λ (m : List ℕ). ltb d high && all_up_to (high - 1) m) (drop-cons l i 0 h)
      ∙ sym (and-swap (ltb d high) (leb (get_or l i 0) (high - 1)) (all_up_to (high - 1) (drop (suc i) l)))
      ∙ ap₂ (λ (x : Bool) (n : ℕ). x && all_up_to (high - 1) (drop n l)) (sym (or-below d (get_or l i 0))) (sym (add-one i))

  pub together-ends : length l ≤ i → (ltb d high && all_up_to (high - 1) (drop i l)) ≡ ltb d high
  unfolding all_up_to
  together-ends h = ap (λ (m : List ℕ). ltb d high && all_up_to (high - 1) m) (drop_of_length-le l {i = i} h) ∙ and-true (ltb d high)
    where
      and-true : (x : Bool) → (x && true) ≡ x
      and-true true = refl
      and-true false = refl
