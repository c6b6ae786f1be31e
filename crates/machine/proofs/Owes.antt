-- The machine owes what the meaning says: its record after every fine history is what the theory says of the symbols heard. By
-- induction over them, with no program in sight.
--   Owes t ys rx   rx is the record of the receiver t after the symbols ys
--   owes           so it is after every fine history
--   owes-step      what one more symbol does to it
--   owes-sound     the machine takes it for sound
use mathlib.Core.Path.{◌≡◌, refl, ap, ◌∙◌}
use mathlib.Core.Bool.{true}
use mathlib.Core.List.{List, [], ◌∷◌}
use Prim.Native.Nat.{◌≤◌}
use native.Mathlib.Omega.{arith}
use Rattle.points.specs.Agreed.{is_accord}
use Rattle.trellis.specs.Measure.{GoodStart, Two}
use Rattle.nearest.specs.declared.Received.{Received}
use Rattle.machine.specs.declared.Receiver.{Receiver}
use Rattle.machine.specs.Machine.{opened, grown, kept_of, sound, machine_after, machine_of}
use Rattle.receiver_meaning.specs.Told.{Told, FineList, Fine}
use Rattle.machine.proofs.Trellis.{turn_below}
use Rattle.machine.proofs.Keeps.{Keeps, keeps-start}
use Rattle.machine.proofs.Sound.{sound-from}
use Rattle.machine.proofs.Step.{Stepped, stepped}

pub record Owes (t : Told) (ys : List (Two Received)) (rx : Receiver) : Type 0 where
  pub keeps : Keeps t.accord t.start ys rx
  pub window : rx.core.window ≡ t.window
  pub fits : rx.core.pending ≤ t.window

module _ (t : Told) where
  module _ (agreed : is_accord t.accord ≡ true) (small : t.window ≤ 64) (g : GoodStart t.start) where
    next : (ys : List (Two Received)) (y : Two Received) (rx : Receiver) → FineList t (y ∷ ys) → Owes t ys rx → Owes t (y ∷ ys) (grown rx y)
    unfolding grown
    next ys y rx f o =
        let s : Stepped t.accord t.start ys y rx = stepped t.accord t.start ys y rx agreed g o.keeps in
        let h : kept_of rx y ≤ t.window = omega (arith, f.1, s.kept) in
        record { keeps = s.next (omega arith); window = o.window; fits = h }

    pub owes-after : (ys : List (Two Received)) → FineList t ys → Owes t ys (machine_after t ys)
    unfolding machine_after opened
    owes-after [] f = record { keeps = keeps-start t.accord t.window t.start g; window = refl; fits = omega arith }
    owes-after (y ∷ ys) f = next ys y (machine_after t ys) f (owes-after ys f.2)

pub owes : (t : Told) → Fine t → Owes t t.heard (machine_of t)
owes t f = owes-after t f.agreed f.small-window f.good_start t.heard f.each

pub owes-step : (t : Told) → Fine t → (y : Two Received) → Stepped t.accord t.start t.heard y (machine_of t)
owes-step t f y = stepped t.accord t.start t.heard y (machine_of t) f.agreed f.good_start (owes t f).keeps

-- so the record is one that the functions can work on
pub owes-sound : (t : Told) (f : Fine t) → sound (machine_of t) ≡ true
owes-sound t f =
    let o : Owes t t.heard (machine_of t) = owes t f in
    let k : Keeps t.accord t.start t.heard (machine_of t) = o.keeps in
    sound-from (machine_of t) k.is_live
    (record {
      agreed = ap is_accord k.accord ∙ f.agreed;
      some-window = omega (arith, o.window, f.some-window);
      small-window = omega (arith, o.window, f.small-window);
      turn_below = omega (arith, k.turn, turn_below t.accord t.start f.good_start t.heard);
      slot-below = k.slot-below;
      held = omega (arith, o.window, o.fits);
    })
    k.top
