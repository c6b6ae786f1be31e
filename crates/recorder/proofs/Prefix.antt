-- An output is lent to its m-th place, and the words W are written at its front: what that makes of the whole.
--   few     the words fit
--   back    the whole afterwards
--   front   its first places are the words
use mathlib.Core.Path.{◌≡◌, sym, ap, ◌∙◌}
use mathlib.Core.List.{List, ◌++◌, append_assoc}
use Prim.Native.Nat.{ℕ, ◌+◌, ◌-◌, ◌≤◌}
use native.Mathlib.Omega.{arith}
use lib.ListN.{length, take, drop, length-append, length-drop, take-append-drop}
use lib.Seq.{length-take-le, take-append_seam, drop-append-le}

module _ (out W ys : List ℕ) (m : ℕ) (m-in : m ≤ length out) (is : ys ≡ W ++ drop (length W) (take m out)) (kept : length ys ≡ length (take m out)) where
  long : length (take m out) ≡ m
  long = length-take-le m out m-in

  pub few : length W ≤ m
  few = let a : length ys ≡ length W + (length (take m out) - length W) = ap length is ∙ length-append W (drop (length W) (take m out)) ∙ rw length-drop in omega (arith, long)

  rest : drop (length W) (take m out) ++ drop m out ≡ drop (length W) out
  rest = sym (drop-append-le (length W) (take m out) (drop m out) (omega (arith, few, long))) ∙ rw (take-append-drop m out)

  pub back : ys ++ drop m out ≡ W ++ drop (length W) out
  back = rw is (append_assoc W (drop (length W) (take m out)) (drop m out) ∙ ap (λ (l : List ℕ). W ++ l) rest)

  pub front : take (length W) (ys ++ drop m out) ≡ W
  front = rw back (take-append_seam W (drop (length W) out))
