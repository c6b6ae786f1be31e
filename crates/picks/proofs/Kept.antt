-- What stands in the words once a symbol is kept.
--   kept-length               the length stays
--   newest-type, older-type   I3' of the new symbol, and of one that came before
--   kept_slot, other-slot     the numbers in the slot, and in any other
use mathlib.Core.Path.{◌≡◌, sym, ap, ◌∙◌}
use mathlib.Core.List.{List, ◌++◌}
use Prim.Native.Nat.{ℕ, suc, ◌+◌, ◌/◌, ◌%◌, ◌^◌, ◌<◌}
use native.Mathlib.Omega.{arith}
use lib.ListN.{length, get_or, drop, length-set}
use lib.Pow.{shr-shr}
use lib.Seq.{get_or-set_same, get_or-set_other}
use Rattle.lists.specs.Tabled.{tabled}
use Rattle.lists.proofs.Filled.{fill-length, fill-at, fill-past}
use Rattle.registers.specs.Registers.{bit_at}
use Rattle.registers.proofs.Words.{low_bits}
use Rattle.picks.specs.Picks.{longer, type_at, numbers_at, longer_at, kept_in}

newest-bit : (r b : ℕ) → b < 2 → bit_at (longer r b) 0 ≡ b
newest-bit r b h = omega arith

older-bit : (r b q : ℕ) → b < 2 → q < 63 → bit_at (longer r b) (suc q) ≡ bit_at r q
older-bit r b q h k =
    let half : longer r b / 2 ≡ r % 2 ^ 63 = omega arith in
    let up : suc q ≡ 1 + q = omega arith in
    ap (λ (k : ℕ). longer r b / 2 ^ k % 2) up ∙ ap (λ (x : ℕ). x % 2) (sym (shr-shr (longer r b) 1 q)) ∙ ap (λ (x : ℕ). x / 2 ^ q % 2) half ∙ low_bits r 63 q k

module _ (picks : List ℕ) (i : ℕ) (i3 : List ℕ) (n : ℕ) (long : length picks ≡ 72) (h : i < 64) where
  abbrev longer-all : List ℕ
  longer-all = tabled (longer_at picks i3) 8 ++ drop 8 picks

  all-length : length longer-all ≡ 72
  all-length = fill-length (longer_at picks i3) 8 picks (omega arith) ∙ long

  pub kept-length : length (kept_in picks i i3 n) ≡ 72
  unfolding kept_in
  kept-length = simp length-set all-length

  register : (k : ℕ) → k < 8 → get_or (kept_in picks i i3 n) k 0 ≡ longer_at picks i3 k
  unfolding kept_in
  register k g = get_or-set_other longer-all (8 + i) k n 0 (λ e. omega arith) ∙ fill-at (longer_at picks i3) 8 picks k g

  pub newest-type : (k : ℕ) → k < 8 → type_at (kept_in picks i i3 n) k 0 ≡ get_or i3 k 0 % 2
  newest-type k g = ap (λ (r : ℕ). bit_at r 0) (register k g) ∙ newest-bit (get_or picks k 0) (get_or i3 k 0 % 2) (omega arith)

  pub older-type : (k q : ℕ) → k < 8 → q < 63 → type_at (kept_in picks i i3 n) k (suc q) ≡ type_at picks k q
  older-type k q g l = rw (register k g) (older-bit (get_or picks k 0) (get_or i3 k 0 % 2) q (omega arith) l)

  pub kept_slot : numbers_at (kept_in picks i i3 n) i ≡ n
  unfolding kept_in
  kept_slot = get_or-set_same longer-all (8 + i) n 0 (omega (arith, all-length))

  pub other-slot : (j : ℕ) → (j ≡ i → ⊥) → numbers_at (kept_in picks i i3 n) j ≡ numbers_at picks j
  unfolding kept_in
  other-slot j d = get_or-set_other longer-all (8 + i) (8 + j) n 0 (λ e. d (omega arith)) ∙ fill-past (longer_at picks i3) 8 picks j
