-- What is known of words that hold an end: enough of them, and numbers that fit their fields; and words whose parts were written one behind the
-- other.
--   receiver_long, receiver_turn               of a receiver
--   sender_words, sender_long, sender_turn, sender_state    of a sender, without its state and with it
--   part-written                              a part that was written behind the front of some words
use mathlib.Core.Path.{◌≡◌, sym, ap, ◌∙◌}
use mathlib.Core.Bool.{true, ◌&&◌}
use mathlib.Core.List.{List, ◌++◌, append_assoc}
use Prim.Native.Nat.{ℕ, ◌+◌, ◌^◌, ◌≤◌, ◌<◌}
use borrow.Author.Tests.{ltb-true}
use lib.ListN.{get_or, length, take, drop}
use lib.Seq.{take_at, drop_at, drop-drop}
use Rattle.std.proofs.lemmas.Bool.{and_parts}
use Rattle.c_layout.specs.Layout.{sender_length, sender_tag, receiver_length, receiver_tag}
use Rattle.c_layout.specs.Tagged.{is_half, holds}
use Rattle.c_layout.proofs.Held.{held}

pub receiver_long : (ws : List ℕ) → holds receiver_length receiver_tag ws ≡ true → receiver_length ≤ length ws
receiver_long ws e = (held receiver_length receiver_tag ws e).long

pub receiver_turn : (ws : List ℕ) → holds receiver_length receiver_tag ws ≡ true → get_or ws 2 0 < 2 ^ 32
receiver_turn ws e = (held receiver_length receiver_tag ws e).two

pub sender_words : (ws : List ℕ) → holds sender_length sender_tag ws ≡ true → sender_length ≤ length ws
sender_words ws e = (held sender_length sender_tag ws e).long

module _ (ws : List ℕ) (e : (holds sender_length sender_tag ws && is_half (get_or ws 3 0)) ≡ true) where
  parts : (holds sender_length sender_tag ws ≡ true) × (is_half (get_or ws 3 0) ≡ true)
  parts = and_parts _ _ e

  pub sender_long : sender_length ≤ length ws
  sender_long = (held sender_length sender_tag ws parts.0).long

  pub sender_turn : get_or ws 2 0 < 2 ^ 32
  sender_turn = (held sender_length sender_tag ws parts.0).two

  pub sender_state : get_or ws 3 0 < 2 ^ 32
  sender_state = ltb-true _ _ parts.1

-- a part that was written behind p, which is the front of the words l
pub part-written : (l₀ p ys : List ℕ) {l : List ℕ} (a k : ℕ) → length p ≡ a → l ≡ p ++ drop a l₀ →
    take a l ++ (ys ++ drop k (drop a l)) ≡ (p ++ ys) ++ drop (a + k) l₀
part-written l₀ p ys a k n is =
    ap (λ (m : List ℕ). take a m ++ (ys ++ drop k (drop a m))) is
    ∙ rw (take_at p (drop a l₀) a n, drop_at p (drop a l₀) a n, drop-drop k a l₀) (sym (append_assoc p ys (drop (a + k) l₀)))
