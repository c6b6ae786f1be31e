-- `fault_at`: a missing point has no fault; else the coordinates in order, the first out of range decides.
use Rattle.std.proofs.Common.{◌≡◌, true, false, Some, None, sym, ap, rules}
use Rattle.distance.specs.declared.Spot.{Spot}
use Rattle.nearest.specs.declared.Received.{Received}
use Rattle.nearest.specs.declared.Received.TheVariants.{Heard}
use Rattle.nearest.specs.Line.{is_coordinate}
use Rattle.receiver_meaning.specs.Told.{fault_at}
use Rattle.piece_input.specs.Looks.{place_below}
use Rattle.piece_input.proofs.fault_at.Goals as goal

-- the place, from what the tests say of the coordinates
module _ (h : Received) (s : Spot) (e : h ≡ Heard s) where
  at_x : is_coordinate s.x ≡ false → Some 0 ≡ place_below 2 (fault_at h)
  unfolding fault_at
  at_x p = rw (e, p)

  at_y : is_coordinate s.x ≡ true → is_coordinate s.y ≡ false → Some 1 ≡ place_below 2 (fault_at h)
  unfolding fault_at
  at_y p q = rw (e, p, q)

  nowhere : is_coordinate s.x ≡ true → is_coordinate s.y ≡ true → None ≡ place_below 2 (fault_at h)
  unfolding fault_at
  nowhere p q = rw (e, p, q)

pub returns-in_default : goal.returns-in_default
unfolding fault_at
returns-in_default c = sym (ap (λ (h : Received). place_below 2 (fault_at h)) c.in_default.is)

pub returns-then-not-is_coordinate : goal.returns-then-not-is_coordinate
returns-then-not-is_coordinate c = at_x _ _ c.in-Heard.is (search rules)

pub returns-then-not-is_coordinate-2 : goal.returns-then-not-is_coordinate-2
returns-then-not-is_coordinate-2 c = at_y _ _ c.in-Heard.is (search rules) (search rules)

pub returns : goal.returns
returns c = nowhere _ _ c.in-Heard.is (search rules) (search rules)
