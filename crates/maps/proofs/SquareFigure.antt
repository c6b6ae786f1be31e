-- The figure of the square map for b = 4, computed from the definition: v by rows, y 3, 1, -1 and -3 from top to bottom, and in a row
-- x -3, -1, 1 and 3 from left to right.
use mathlib.Core.Path.{◌≡◌, refl}
use mathlib.Core.List.{List, [], ◌∷◌, map}
use lib.IntN.{ℤ, pos, negsuc}
use Rattle.points.specs.declared.Point.{Point}
use Rattle.maps.specs.SquareMap.{grid_point}

-- -3, -1, 1 and 3, at y
abbrev pub row : ℤ → List Point
row y =
    record { x = negsuc 2; y = y } ∷ record { x = negsuc 0; y = y } ∷ record { x = pos 1; y = y } ∷ record { x = pos 3; y = y } ∷ []

pub figure-top : map (grid_point 4) (9 ∷ 11 ∷ 1 ∷ 3 ∷ []) ≡ row (pos 3)
unfolding grid_point
figure-top = refl

pub figure-upper : map (grid_point 4) (8 ∷ 10 ∷ 0 ∷ 2 ∷ []) ≡ row (pos 1)
unfolding grid_point
figure-upper = refl

pub figure-lower : map (grid_point 4) (13 ∷ 15 ∷ 5 ∷ 7 ∷ []) ≡ row (negsuc 0)
unfolding grid_point
figure-lower = refl

pub figure-bottom : map (grid_point 4) (12 ∷ 14 ∷ 4 ∷ 6 ∷ []) ≡ row (negsuc 2)
unfolding grid_point
figure-bottom = refl
