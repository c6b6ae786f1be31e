-- Pieces with marks: what is marked missing is not looked at, and where no symbol is marked the piece is the plain one.
--   first-unseen, second-unseen   the coordinates of a missing point make no difference
--   unmarked                      a piece with one mark 0 for each symbol is the piece with no mark
use mathlib.Core.Path.{◌≡◌, refl, ap}
use mathlib.Core.Bool.{true}
use mathlib.Core.List.{List, [], ◌∷◌}
use Prim.Native.Nat.{ℕ, zero, suc, ◌*◌, ◌%◌}
use native.Mathlib.Omega.{arith}
use borrow.Author.Tests.{eq-eqb}
use lib.Dec.{eqb}
use lib.IntN.{ℤ}
use lib.ListN.{length, replicate, length-replicate}
use Rattle.lists.specs.UpTo.{all_up_to}
use Rattle.trellis.specs.Measure.{Two}
use Rattle.nearest.specs.declared.Received.{Received}
use Rattle.receiver_meaning.specs.Piece.{marked_symbol, symbols_with, fits_with, marked_piece, symbol_from, symbols_of, piece_of}

pub first-unseen : (a b a' b' c d : ℤ) → marked_symbol 1 a b c d ≡ marked_symbol 1 a' b' c d
first-unseen a b a' b' c d = refl

pub second-unseen : (a b c d c' d' : ℤ) → marked_symbol 2 a b c d ≡ marked_symbol 2 a b c' d'
second-unseen a b c d c' d' = refl

pub both-unseen : (a b c d a' b' c' d' : ℤ) → marked_symbol 3 a b c d ≡ marked_symbol 3 a' b' c' d'
both-unseen a b c d a' b' c' d' = refl

-- a mark 0 is as good as none
zeros : (n : ℕ) (xs : List ℤ) → symbols_with (replicate n 0) xs ≡ symbols_of xs
zeros zero xs = refl
zeros (suc n) (a ∷ b ∷ c ∷ d ∷ xs) = ap (λ (ys : List (Two Received)). symbol_from a b c d ∷ ys) (zeros n xs)
zeros (suc n) (a ∷ b ∷ c ∷ []) = refl
zeros (suc n) (a ∷ b ∷ []) = refl
zeros (suc n) (a ∷ []) = refl
zeros (suc n) [] = refl

all-zero : (n : ℕ) → all_up_to 3 (replicate n 0) ≡ true
unfolding all_up_to
all-zero zero = refl
all-zero (suc n) = all-zero n

-- "`hear` is a marked piece with no mark"
pub unmarked : (n : ℕ) (xs : List ℤ) → length xs ≡ 4 * n → marked_piece (replicate n 0) xs ≡ piece_of xs
unmarked n xs e =
    let ms : List ℕ = replicate n 0 in
    let m : length ms ≡ n = length-replicate n 0 in
    let f : fits_with true ms (length xs) ≡ true = rw (all-zero n, eq-eqb (length xs) (4 * length ms) (omega (arith, e, m))) in
    let g : eqb (length xs % 4) 0 ≡ true = eq-eqb (length xs % 4) 0 (omega (arith, e)) in
    let h : fits_with true ms (length xs) ≡ eqb (length xs % 4) 0 = cc in
    λ i. record { fits = h i; symbols = zeros n xs i }
