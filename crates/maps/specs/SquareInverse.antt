-- What the inverse of the square map answers: the label and the number of which the map makes the point.
use Rattle.std.specs.Prelude.{ℕ, ◌^◌, ◌<◌, ◌≡◌}
use Rattle.points.specs.declared.Point.{Point}
use Rattle.maps.specs.declared.square.Place.{Place}
use Rattle.maps.specs.SquareMap.{square_of}

pub record IsPlace (u : ℕ) (p : Point) (r : Place) : Type 0 where
  pub l-below : r.l < 4
  pub w-below : r.w < 2 ^ u
  pub is-there : square_of u r.l r.w ≡ p
