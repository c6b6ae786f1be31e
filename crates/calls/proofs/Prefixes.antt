-- Beginnings of lists: they chain, and a beginning joined with what is left behind it is the whole list.
use mathlib.Core.Path.{◌≡◌, sym, ap, ◌∙◌}
use mathlib.Core.List.{List, [], ◌++◌, append-nil, append_assoc, IsPrefix}
use lib.ListN.{length, drop}
use lib.Seq.{drop-append_seam}

module _ {A : Type 0} where
  pub prefix-self : (l : List A) → IsPrefix l l
  prefix-self l = ([], append-nil l)

  pub prefix_trans : (l m r : List A) → IsPrefix l m → IsPrefix m r → IsPrefix l r
  prefix_trans l m r (a, e) (b, f) = (a ++ b, sym (append_assoc l a b) ∙ rw e f)

  pub joined : (l m : List A) → IsPrefix l m → l ++ drop (length l) m ≡ m
  joined l m (a, e) = ap (λ (x : List A). l ++ drop (length l) x) (sym e) ∙ rw drop-append_seam e
