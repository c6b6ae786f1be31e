-- After a symbol each state has the subsets of the state it came from, one age older, and its new subset at the age 0.
--   moved_length                 the length stays
--   newest-subset, older-subset  the subsets
use mathlib.Core.Path.{◌≡◌, refl, ap, ap₂, ◌∙◌}
use mathlib.Core.Bool.{Bool, true, false, cond}
use mathlib.Core.List.{List}
use Prim.Native.Nat.{ℕ, zero, suc, ◌+◌, ◌-◌, ◌*◌, ◌/◌, ◌%◌, ◌^◌, ◌≤◌, ◌<◌}
use native.Mathlib.Decide.{dec_lt}
use native.Mathlib.Omega.{arith}
use borrow.Author.Tests.{lt-ltb, leb-true}
use lib.Dec.{leb}
use lib.ListN.{length, get_or}
use lib.Pow.{shr-shr}
use Rattle.lists.proofs.Filled.{tabled-length, tabled-at}
use Rattle.registers.specs.Registers.{bit_at, bit_in, subset_in, came_from, longer, word_before, carried, moved_at, moved_words, place_moved, moved_of}
use Rattle.registers.proofs.Words.{low_bits, new-bits, old-bits, three-bits}

once : (x : ℕ) → x % 8 % 8 ≡ x % 8
once x = omega arith

below-0 : 0 < 3
below-0 = omega arith

below-1 : 1 < 3
below-1 = omega arith

below-2 : 2 < 3
below-2 = omega arith

module _ (n : ℕ) (registers steps : List ℕ) where
  pub moved_length : length (moved_of n registers steps) ≡ 48
  unfolding moved_of
  moved_length = tabled-length (place_moved n registers steps) 48

  module _ (s : ℕ) (h : s < 16) where
    abbrev moved : List ℕ
    moved = moved_of n registers steps

    abbrev from : ℕ
    from = came_from (get_or steps s 0)

    -- a word that holds some of the n
    word_moved : (b : ℕ) → b < 3 → b < moved_words n → get_or (moved_of n registers steps) (16 * b + s) 0 ≡ moved_at registers steps b s
    unfolding moved_of
    word_moved b l k =
        let e₀ : (16 * b + s) / 16 ≡ b = omega arith in
        let e₁ : (16 * b + s) % 16 ≡ s = omega arith in
        tabled-at (place_moved n registers steps) 48 (16 * b + s) (omega arith) ∙ rw (e₀, e₁, lt-ltb b (moved_words n) k)

    carried-below : (b : ℕ) → carried registers steps b s < 8
    unfolding carried
    carried-below zero = omega arith
    carried-below (suc b) = omega arith

    -- a bit, three places up
    moved-bit : (i : ℕ) → i + 3 < 64 * moved_words n → i + 3 < 192 → bit_in (moved_of n registers steps) s (i + 3) ≡ bit_in registers (came_from (get_or steps s 0)) i
    unfolding carried
    moved-bit i k l = go (dec_lt (i % 64) 61)
      where
        go : Dec (i % 64 < 61) → bit_in (moved_of n registers steps) s (i + 3) ≡ bit_in registers (came_from (get_or steps s 0)) i
        go (yes y) =
            let e₀ : (i + 3) / 64 ≡ i / 64 = omega arith in
            let e₁ : (i + 3) % 64 ≡ 3 + i % 64 = omega arith in
            ap₂ (λ (x y : ℕ). bit_at (get_or moved (16 * x + s) 0) y) e₀ e₁
            ∙ ap (λ (w : ℕ). bit_at w (3 + i % 64)) (word_moved (i / 64) (omega arith) (omega arith))
            ∙ old-bits (word_before registers steps (i / 64) s) (carried registers steps (i / 64) s) (i % 64) (carried-below (i / 64)) y
        go (no y) =
            let t : ℕ = i % 64 - 61 in
            let w : ℕ = word_before registers steps (i / 64) s in
            let e₀ : (i + 3) / 64 ≡ suc (i / 64) = omega arith in
            let e₁ : (i + 3) % 64 ≡ t = omega arith in
            let up : 61 + t ≡ i % 64 = omega arith in
            ap₂ (λ (x y : ℕ). bit_at (get_or moved (16 * x + s) 0) y) e₀ e₁
            ∙ ap (λ (w : ℕ). bit_at w t) (word_moved (suc (i / 64)) (omega arith) (omega arith))
            ∙ new-bits (word_before registers steps (suc (i / 64)) s) (w / 2 ^ 61 % 8) t (omega arith)
            ∙ low_bits (w / 2 ^ 61) 3 t (omega arith)
            ∙ ap (λ (x : ℕ). x % 2) (shr-shr w 61 t)
            ∙ ap (bit_at w) up

    some_word : 0 < moved_words n
    unfolding moved_words
    some_word = go (leb n 21) (leb n 42)
      where
        go : (x y : Bool) → 0 < cond x 1 (cond y 2 3)
        go true y = omega arith
        go false true = omega arith
        go false false = omega arith

    -- the newest n symbols lie in the words that are moved
    room : (q : ℕ) → suc q < n → q < 63 → 3 * q + 5 < 64 * moved_words n
    unfolding moved_words
    room q k l = go (leb n 21) (leb n 42) (λ z. leb-true n 21 z) (λ z. leb-true n 42 z)
      where
        go : (x y : Bool) → (x ≡ true → n ≤ 21) → (y ≡ true → n ≤ 42) → 3 * q + 5 < 64 * cond x 1 (cond y 2 3)
        go true y a b = omega (arith, a refl)
        go false true a b = omega (arith, b refl)
        go false false a b = omega arith

    pub newest-subset : subset_in (moved_of n registers steps) s 0 ≡ get_or steps s 0 % 8
    unfolding carried
    newest-subset =
        let step : ℕ = get_or steps s 0 in
        let w : get_or moved (16 * 0 + s) 0 ≡ longer (word_before registers steps 0 s) (step % 8) = word_moved 0 below-0 some_word in
        let at : (j : ℕ) → j < 3 → bit_at (get_or moved (16 * 0 + s) 0) j ≡ bit_at (step % 8) j = λ j k. ap (λ (x : ℕ). bit_at x j) w ∙ new-bits (word_before registers steps 0 s) (step % 8) j k in
        let z₀ : bit_in moved s (3 * 0) ≡ bit_at (step % 8) 0 = at 0 below-0 in
        let z₁ : bit_in moved s (3 * 0 + 1) ≡ bit_at (step % 8) 1 = at 1 below-1 in
        let z₂ : bit_in moved s (3 * 0 + 2) ≡ bit_at (step % 8) 2 = at 2 below-2 in
        let sum : subset_in moved s 0 ≡ 4 * bit_at (step % 8) 2 + 2 * bit_at (step % 8) 1 + bit_at (step % 8) 0 = cc in
        sum ∙ three-bits (step % 8) ∙ once step

    pub older-subset : (q : ℕ) → q < 63 → suc q < n → subset_in (moved_of n registers steps) s (suc q) ≡ subset_in registers (came_from (get_or steps s 0)) q
    older-subset q k l =
        let r = room q l k in
        let e₀ : 3 * suc q ≡ 3 * q + 3 = omega arith in
        let e₁ : 3 * suc q + 1 ≡ 3 * q + 1 + 3 = omega arith in
        let e₂ : 3 * suc q + 2 ≡ 3 * q + 2 + 3 = omega arith in
        let z₀ : bit_in moved s (3 * suc q) ≡ bit_in registers from (3 * q) = ap (bit_in moved s) e₀ ∙ moved-bit (3 * q) (omega arith) (omega arith) in
        let z₁ : bit_in moved s (3 * suc q + 1) ≡ bit_in registers from (3 * q + 1) = ap (bit_in moved s) e₁ ∙ moved-bit (3 * q + 1) (omega arith) (omega arith) in
        let z₂ : bit_in moved s (3 * suc q + 2) ≡ bit_in registers from (3 * q + 2) = ap (bit_in moved s) e₂ ∙ moved-bit (3 * q + 2) (omega arith) (omega arith) in
        cc
