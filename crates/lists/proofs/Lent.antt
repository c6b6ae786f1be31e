-- Lists that a loop fills from the front, and the rest of a list while it is lent to a call.
--   stored                        stores one after the other
--   placed                        what a call wrote at the front of the rest that it was lent
--   lent, back                    the rest of a list from a on, as it is lent, and the list when the rest has come back
--   part-back                     the list from a on when a part that began there has come back
use mathlib.Core.Path.{◌≡◌, refl, sym, ap, ◌∙◌}
use mathlib.Core.List.{List, ◌++◌, append_assoc, append-nil}
use Prim.Native.Nat.{ℕ, ◌+◌, ◌-◌, ◌≤◌}
use native.Mathlib.Omega.{arith}
use lib.ListN.{length, take, drop, length-drop, drop_of_length-le}
use lib.Seq.{drop-drop, take_all, take_at, drop_at, length-take-le, sets, sets-eq}

module _ {A : Type 0} where
  pub stored : (vs l : List A) → length vs ≤ length l → sets l 0 vs ≡ vs ++ drop (length vs) l
  stored vs l h = let e : 0 + length vs ≡ length vs = omega arith in sets-eq vs l 0 (omega arith) ∙ rw e

  module _ (l : List A) (n a : ℕ) (is : length l ≡ n) where
    pub lent : take (n - a) (drop a l) ≡ drop a l
    lent = take_all (n - a) (drop a l) (rw length-drop (omega arith))

    pub back : {ys zs : List A} → ys ≡ zs → take a l ++ (ys ++ drop (n - a) (drop a l)) ≡ take a l ++ zs
    back e = rw (drop_of_length-le (drop a l) {i = n - a} (rw length-drop (omega arith)), append-nil, e)

  -- a part of so many places was lent, and has come back as ys
  pub part-back : (l ys : List A) (a k : ℕ) → a ≤ length l → drop a (take a l ++ (ys ++ drop k (drop a l))) ≡ ys ++ drop (a + k) l
  part-back l ys a k h = drop_at (take a l) (ys ++ drop k (drop a l)) a (length-take-le a l h) ∙ ap (λ m. ys ++ m) (drop-drop k a l)

  -- a list begins with p and ends as l₀ did
  module _ (l₀ p : List A) {l : List A} (a : ℕ) (size : length p ≡ a) (is : l ≡ p ++ drop a l₀) where
    rest : drop a l ≡ drop a l₀
    rest = ap (λ m. drop a m) is ∙ drop_at p (drop a l₀) a size

    -- the rest was lent, and vs was written at its front
    pub placed : (vs : List A) (k : ℕ) {ys : List A} → ys ≡ vs ++ drop k (take (length l - a) (drop a l)) →
        take a l ++ (ys ++ drop (length l - a) (drop a l)) ≡ (p ++ vs) ++ drop (a + k) l₀
    placed vs k e =
        let front : take a l ≡ p = ap (λ m. take a m) is ∙ take_at p (drop a l₀) a size in
        back l (length l) a refl e ∙ rw (lent l (length l) a refl, front, rest, drop-drop k a l₀) (sym (append_assoc p vs (drop (a + k) l₀)))
