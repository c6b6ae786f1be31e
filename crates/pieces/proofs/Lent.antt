-- The rest of an output, from the place w on, is lent on, and the words W are written at its front: what that makes of the whole.
--   part        what is lent is the rest of the output as it first was
--   lent_fits   the words fit
--   back_is     the whole afterwards: what was written before, the words, and the rest unchanged
--   front, back-take, back-drop, back-length   its parts and its length
use mathlib.Core.Path.{◌≡◌, sym, ◌∙◌}
use mathlib.Core.List.{List, [], ◌++◌, append_assoc, append-nil}
use Prim.Native.Nat.{ℕ, ◌+◌, ◌-◌, ◌≤◌}
use native.Mathlib.Omega.{arith}
use lib.ListN.{length, take, drop, length-drop, length-append, drop_of_length-le}
use lib.Seq.{take_all, drop-drop, length-take-le, take_at, drop_at}

module _ (out out₀ W ys : List ℕ) (w : ℕ) (long : length out ≡ length out₀) (room : w ≤ length out₀) (rest : drop w out ≡ drop w out₀)
    (is : ys ≡ W ++ drop (length W) (take (length out - w) (drop w out))) (kept : length ys ≡ length (take (length out - w) (drop w out))) where
  pub part : take (length out - w) (drop w out) ≡ drop w out₀
  part = take_all (length out - w) (drop w out) (rw length-drop (omega arith)) ∙ rest

  none_after : drop (length out - w) (drop w out) ≡ []
  none_after = drop_of_length-le (drop w out) {i = length out - w} (rw length-drop (omega arith))

  pub lent_fits : w + length W ≤ length out₀
  lent_fits =
      let a : length ys ≡ length W + (length (drop w out₀) - length W) = rw (is, part) (length-append W (drop (length W) (drop w out₀)) ∙ rw length-drop) in
      let b : length ys ≡ length out₀ - w = kept ∙ rw (part, length-drop) in
      let c : length (drop w out₀) ≡ length out₀ - w = length-drop w out₀ in
      omega arith

  pub back_is : take w out ++ (ys ++ drop (length out - w) (drop w out)) ≡ (take w out ++ W) ++ drop (w + length W) out₀
  back_is =
      rw (none_after, append-nil, is, part, drop-drop (length W) w out₀)
      (sym (append_assoc (take w out) W (drop (w + length W) out₀)))

  pub front : length (take w out ++ W) ≡ w + length W
  front = length-append (take w out) W ∙ rw (length-take-le w out (omega arith))

  pub back-take : take (w + length W) (take w out ++ (ys ++ drop (length out - w) (drop w out))) ≡ take w out ++ W
  back-take = rw back_is (take_at (take w out ++ W) (drop (w + length W) out₀) (w + length W) front)

  pub back-drop : drop (w + length W) (take w out ++ (ys ++ drop (length out - w) (drop w out))) ≡ drop (w + length W) out₀
  back-drop = rw back_is (drop_at (take w out ++ W) (drop (w + length W) out₀) (w + length W) front)

  pub back-length : length (take w out ++ (ys ++ drop (length out - w) (drop w out))) ≡ length out₀
  back-length =
      let a = lent_fits in
      rw (back_is, length-append (take w out ++ W), front, length-drop) (omega arith)
