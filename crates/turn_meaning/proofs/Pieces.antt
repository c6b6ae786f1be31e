-- Turned coordinates make a turned piece, with the same marks or with none: so a caller who turns what it hands over turns what is heard.
--   piece-turned   the piece of coordinates that were turned k times
use mathlib.Core.Path.{◌≡◌, refl, sym, ap, ap₂, ◌∙◌}
use mathlib.Core.Bool.{Bool, true, false}
use mathlib.Core.List.{List, [], ◌∷◌, map, map-id, map-map}
use Prim.Native.Nat.{ℕ, zero, suc}
use lib.IntN.{ℤ, neg_ℤ}
use lib.ListN.{length}
use Rattle.trellis.specs.Measure.{Two}
use Rattle.nearest.specs.declared.Received.{Received}
use Rattle.receiver_meaning.specs.Piece.{Piece, point_from, first_missing, second_missing, mark_of, later_marks, symbols_with, fits_with, marks_of, piece_with}
use Rattle.turn_meaning.specs.Turned.{times, point_turned, two_turned, turned_by, coordinates_turned, piece_turned}

point-from : (b : Bool) (x y : ℤ) → point_from b y (neg_ℤ x) ≡ point_turned (point_from b x y)
point-from true x y = refl
point-from false x y = refl

symbols-once : (ms : List ℕ) (xs : List ℤ) → symbols_with ms (coordinates_turned xs) ≡ map (two_turned point_turned) (symbols_with ms xs)
symbols-once ms [] = refl
symbols-once ms (a ∷ []) = refl
symbols-once ms (a ∷ b ∷ []) = refl
symbols-once ms (a ∷ b ∷ c ∷ []) = refl
symbols-once ms (a ∷ b ∷ c ∷ d ∷ xs) =
    let f = point-from (first_missing (mark_of ms)) a b in
    let g = point-from (second_missing (mark_of ms)) c d in
    ap₂ (λ (y : Two Received) (l : List (Two Received)). y ∷ l) (λ i. record { first = f i; second = g i }) (symbols-once (later_marks ms) xs)

length-once : (xs : List ℤ) → length (coordinates_turned xs) ≡ length xs
length-once [] = refl
length-once (a ∷ []) = refl
length-once (a ∷ b ∷ xs) = ap (λ (n : ℕ). suc (suc n)) (length-once xs)

length-turned : (k : ℕ) (xs : List ℤ) → length (times coordinates_turned k xs) ≡ length xs
length-turned zero xs = refl
length-turned (suc k) xs = length-once (times coordinates_turned k xs) ∙ length-turned k xs

symbols-turned : (k : ℕ) (ms : List ℕ) (xs : List ℤ) → symbols_with ms (times coordinates_turned k xs) ≡ map (turned_by k) (symbols_with ms xs)
symbols-turned zero ms xs = sym (map-id (symbols_with ms xs))
symbols-turned (suc k) ms xs =
    symbols-once ms (times coordinates_turned k xs) ∙ ap (map (two_turned point_turned)) (symbols-turned k ms xs)
    ∙ map-map (two_turned point_turned) (turned_by k) (symbols_with ms xs)

pub piece-turned : (k : ℕ) (b : Bool) (ms : List ℕ) (xs : List ℤ) →
    piece_with b ms (times coordinates_turned k xs) ≡ piece_turned k (piece_with b ms xs)
piece-turned k b ms xs =
    ap₂ {C = Piece} (λ (n : ℕ) (l : List (Two Received)). record { fits = fits_with b ms n; symbols = l }) (length-turned k xs)
    (symbols-turned k (marks_of b ms) xs)
