-- A line with noise: every received point was heard, and near enough to the point sent in its place. Lists are in the order of time.
--   Near n h p           each coordinate of the spot h is at most n line units from where the point p stands
--   Nearer k h p         of all points used on a line of the accord k, of any label, p is nearer to h than every other
--   OnlyNearest k h p    and its distance is below the cap
--   Landed P r p         the received point r was heard, and P holds of the spot and of the point p
--   Carried P rs ps      P holds of each received point of rs and the sent point in its place. ps are the coordinates that a sender wrote, two for
--                        each point; it may have sent more than was received
use Rattle.std.specs.Prelude.{◌≡◌, List, [], ◌∷◌, ℕ, ◌^◌, ◌≤◌, ◌<◌, ℤ, nat_abs}
use Rattle.points.specs.declared.Accord.{Accord}
use Rattle.points.specs.declared.Point.{Point}
use Rattle.maps.specs.PointMap.{point_at}
use Rattle.trellis.specs.Measure.{Two, cap}
use Rattle.distance.specs.declared.Spot.{Spot}
use Rattle.distance.specs.Distance.{difference, distance}
use Rattle.nearest.specs.declared.Received.{Received}
use Rattle.nearest.specs.declared.Received.TheVariants.{Heard, Missing}

-- "Point coordinate c stands at 128·c": `difference` is the received coordinate less that
pub record Near (n : ℕ) (h : Spot) (p : Point) : Type 0 where
  pub x-near : nat_abs (difference h.x p.x) ≤ n
  pub y-near : nat_abs (difference h.y p.y) ≤ n

-- "Width u uses w below 2^u, so each label has 2^u points": all points of the width and map
abbrev pub Nearer : Accord → Spot → Point → Type 0
Nearer k h p = (l w : ℕ) → l < 4 → w < 2 ^ k.u → (point_at k l w ≡ p → ⊥) → distance h p < distance h (point_at k l w)

-- "The squared distance of each single 2D point is to count for no more than 262,144 in any sum" (02, Wish 8): beyond that all points are alike
pub record OnlyNearest (k : Accord) (h : Spot) (p : Point) : Type 0 where
  pub counts : distance h p < cap
  pub nearer : Nearer k h p

abbrev pub Landed : (Spot → Point → Type 0) → Received → Point → Type 0
Landed P (Heard h) p = P h p
Landed P Missing p = ⊥

abbrev pub Carried : (Spot → Point → Type 0) → List (Two Received) → List ℤ → Type 0
Carried P [] ps = Unit {0}
Carried P (r ∷ rs) [] = ⊥
Carried P (r ∷ rs) (a ∷ []) = ⊥
Carried P (r ∷ rs) (a ∷ b ∷ []) = ⊥
Carried P (r ∷ rs) (a ∷ b ∷ c ∷ []) = ⊥
Carried P (r ∷ rs) (a ∷ b ∷ c ∷ d ∷ ps) = Landed P r.first (record { x = a; y = b }) × Landed P r.second (record { x = c; y = d }) × Carried P rs ps
