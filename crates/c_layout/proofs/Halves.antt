-- Numbers of 32 bits come back from the words that they were put into.
--   packed-length    there are eight words
--   back             they are the numbers again
--   two-more, all-halves   that numbers fit 32 bits, two by two
use mathlib.Core.Path.{◌≡◌, refl, ap, ◌∙◌}
use mathlib.Core.Bool.{Bool, true, false, cond}
use mathlib.Core.List.{List, ◌++◌}
use Prim.Native.Nat.{ℕ, suc, ◌+◌, ◌*◌, ◌/◌, ◌%◌, ◌<◌}
use native.Mathlib.Omega.{arith}
use native.Mathlib.Decide.{dec_lt, ℕ_discrete}
use borrow.Author.Tests.{eqb-true, eqb-false}
use lib.Dec.{eqb}
use lib.ListN.{length, drop, set, get_or, get_or-eq_default}
use Rattle.lists.specs.Tabled.{tabled}
use Rattle.lists.proofs.Filled.{tabled-length, tabled-at, tabled-more, tabled-same, all_listed}
use Rattle.c_layout.specs.Halves.{half_at, unpacked, pair_at, packed, AllHalves}

pub packed-length : (xs : List ℕ) → length (packed xs) ≡ 8
unfolding packed
packed-length xs = tabled-length (pair_at xs) 8

module _ (xs : List ℕ) (small : AllHalves xs) where
  word_at : (j : ℕ) → j < 16 → get_or (packed xs) (j / 2) 0 ≡ get_or xs (2 * (j / 2)) 0 + 4294967296 * get_or xs (2 * (j / 2) + 1) 0
  unfolding packed
  word_at j h = tabled-at (pair_at xs) 8 (j / 2) (omega arith)

  half_back : (j : ℕ) → j < 16 → half_at (packed xs) j ≡ get_or xs j 0
  half_back j h = ap (λ (w : ℕ). cond (eqb (j % 2) 1) (w / 4294967296) (w % 4294967296)) (word_at j h) ∙ go (eqb (j % 2) 1) refl
    where
      low : ℕ
      low = get_or xs (2 * (j / 2)) 0

      high : ℕ
      high = get_or xs (2 * (j / 2) + 1) 0

      go : (b : Bool) → eqb (j % 2) 1 ≡ b → cond b ((low + 4294967296 * high) / 4294967296) ((low + 4294967296 * high) % 4294967296) ≡ get_or xs j 0
      go true e =
          let p : 2 * (j / 2) + 1 ≡ j = omega (arith, eqb-true (j % 2) 1 e) in
          let q : (low + 4294967296 * high) / 4294967296 ≡ high = omega (arith, small (2 * (j / 2))) in
          q ∙ ap (λ (n : ℕ). get_or xs n 0) p
      go false e =
          let p : 2 * (j / 2) ≡ j = omega (arith, eqb-false (j % 2) 1 e) in
          let q : (low + 4294967296 * high) % 4294967296 ≡ low = omega (arith, small (2 * (j / 2))) in
          q ∙ ap (λ (n : ℕ). get_or xs n 0) p

  pub back : length xs ≡ 16 → unpacked (packed xs) ≡ xs
  unfolding unpacked
  back n = tabled-same (half_at (packed xs)) (λ j. get_or xs j 0) 16 half_back ∙ all_listed xs 16 n

pub two-more : (xs : List ℕ) (i : ℕ) → ((k : ℕ) → k < 2 * i → get_or xs k 0 < 4294967296) → get_or xs (2 * i) 0 < 4294967296 → get_or xs (2 * i + 1) 0 < 4294967296 →
    (k : ℕ) → k < 2 * (i + 1) → get_or xs k 0 < 4294967296
two-more xs i f a b k h = go (dec_lt k (2 * i)) (ℕ_discrete k (2 * i))
  where
    go : Dec (k < 2 * i) → Dec (k ≡ 2 * i) → get_or xs k 0 < 4294967296
    go (yes l) d = f k l
    go (no l) (yes e) = omega (arith, ap (λ (n : ℕ). get_or xs n 0) e)
    go (no l) (no e) = omega (arith, ap (λ (n : ℕ). get_or xs n 0) (let z : k ≡ 2 * i + 1 = omega arith in z))

pub all-halves : (xs : List ℕ) → length xs ≡ 16 → ((k : ℕ) → k < 16 → get_or xs k 0 < 4294967296) → AllHalves xs
all-halves xs n f k = go (dec_lt k 16)
  where
    go : Dec (k < 16) → get_or xs k 0 < 4294967296
    go (yes h) = f k h
    go (no h) = omega (arith, get_or-eq_default xs 0 {n = k} (omega arith))

-- ── two halves of a word ──
pub low-half : (ws : List ℕ) (i : ℕ) → half_at ws (2 * i) ≡ get_or ws i 0 % 4294967296
low-half ws i =
    let e : (2 * i) % 2 ≡ 0 = omega arith in
    let d : 2 * i / 2 ≡ i = omega arith in
    rw (e, d)

pub high-half : (ws : List ℕ) (i : ℕ) → half_at ws (suc (2 * i)) ≡ get_or ws i 0 / 4294967296
high-half ws i =
    let e : suc (2 * i) % 2 ≡ 1 = omega arith in
    let d : suc (2 * i) / 2 ≡ i = omega arith in
    rw (e, d)

pub two-filled : (ws : List ℕ) (i : ℕ) (l : List ℕ) → 2 * i + 1 < length l →
    set (set (tabled (half_at ws) (2 * i) ++ drop (2 * i) l) (2 * i) (get_or ws i 0 % 4294967296)) (2 * i + 1) (get_or ws i 0 / 4294967296) ≡
    tabled (half_at ws) (2 * (i + 1)) ++ drop (2 * (i + 1)) l
two-filled ws i l h =
    let f = half_at ws in
    let n : 2 * i + 1 ≡ suc (2 * i) = omega arith in
    let m : 2 * (i + 1) ≡ suc (suc (2 * i)) = omega arith in
    let a : 2 * i < length l = omega arith in
    let b : suc (2 * i) < length l = omega arith in
    rw (n, m, ← low-half ws i, ← high-half ws i, tabled-more f (2 * i) l a) (tabled-more f (suc (2 * i)) l b)
