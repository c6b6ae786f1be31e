-- Telling a receiver more: the machine looks at its opening and at the symbols, and at nothing else.
--   machine-same      the machine after ys is the same whatever else the receiver is told
--   telling-machine   one symbol more
use mathlib.Core.Path.{◌≡◌, refl, ap}
use mathlib.Core.List.{List, [], ◌∷◌}
use Rattle.trellis.specs.Measure.{Two}
use Rattle.nearest.specs.declared.Received.{Received}
use Rattle.machine.specs.declared.Receiver.{Receiver}
use Rattle.machine.specs.Machine.{grown, machine_after, machine_of}
use Rattle.receiver_meaning.specs.Told.{Told, with_heard}

module _ (t : Told) (zs : List (Two Received)) where
  pub machine-same : (ys : List (Two Received)) → machine_after (with_heard t zs) ys ≡ machine_after t ys
  unfolding machine_after
  machine-same [] = refl
  machine-same (y ∷ ys) = ap (λ (rx : Receiver). grown rx y) (machine-same ys)

pub telling-machine : (t : Told) (y : Two Received) → machine_of (with_heard t (y ∷ t.heard)) ≡ grown (machine_of t) y
unfolding machine_after
telling-machine t y = ap (λ (rx : Receiver). grown rx y) (machine-same t (y ∷ t.heard) t.heard)
