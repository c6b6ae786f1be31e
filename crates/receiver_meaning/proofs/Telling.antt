-- Telling a receiver more: the meaning looks at its opening and at the symbols, and at nothing else. And when a symbol has no
-- coordinate at fault.
--   telling-judge           what is said to a symbol after ys is the same whatever else the receiver is told
--   fine-same               and so is whether ys is a history that calls can tell
--   telling-fine            one symbol more: a fine history again, where the symbol was not one to refuse
--   unheard, fine-opened    an opening, and that its history is fine
--   fault-most              a point has no fault past its two coordinates
--   no-fault, in-range      no coordinate is at fault exactly if all are in range
use mathlib.Core.Path.{◌≡◌, refl}
use mathlib.Core.Bool.{Bool, true, false, cond}
use mathlib.Core.List.{List, [], ◌∷◌}
use Prim.Native.Nat.{ℕ, ◌+◌, ◌≤◌}
use native.Mathlib.Omega.{arith}
use lib.Dec.{ltb}
use lib.IntN.{nat_abs}
use borrow.Author.Tests.{leb-true, le-leb, ltb-true, ltb-false}
use Rattle.points.specs.declared.Accord.{Accord}
use Rattle.points.specs.Agreed.{is_accord}
use Rattle.trellis.specs.Measure.{Start, GoodStart, Two}
use Rattle.nearest.specs.declared.Received.{Received}
use Rattle.nearest.specs.declared.Received.TheVariants.{Heard, Missing}
use Rattle.distance.specs.Distance.{SpotInRange}
use Rattle.nearest.specs.Line.{is_coordinate, InRange, BothInRange}
use Rattle.receiver_meaning.specs.Told.{Told, with_heard, pending_after, fault_at, fault_of, judge_symbol, FineList, Fine}

module _ (t : Told) (zs : List (Two Received)) where
  pub fine-same : (ys : List (Two Received)) → FineList t ys → FineList (with_heard t zs) ys
  fine-same [] f = tt
  fine-same (y ∷ ys) f = (f.0, f.1, fine-same ys f.2)

  pub telling-judge : (ys : List (Two Received)) (y : Two Received) (room : ℕ) → judge_symbol (with_heard t zs) ys y room ≡ judge_symbol t ys y room
  unfolding judge_symbol
  telling-judge ys y room = refl

pub telling-fine : (t : Told) (f : Fine t) (y : Two Received) → BothInRange y → pending_after t (y ∷ t.heard) ≤ t.window → Fine (with_heard t (y ∷ t.heard))
telling-fine t f y r h =
    record {
      agreed = f.agreed;
      some-window = f.some-window;
      small-window = f.small-window;
      good_start = f.good_start;
      each = (r, h, fine-same t (y ∷ t.heard) t.heard f.each);
    }

module _ (k : Accord) (window : ℕ) (b : Start) where
  abbrev pub unheard : Told
  unheard = record { accord = k; window = window; start = b; heard = [] }

  pub fine-opened : is_accord k ≡ true → 1 ≤ window → window ≤ 64 → GoodStart b → Fine unheard
  fine-opened h i l g = record { agreed = h; some-window = i; small-window = l; good_start = g; each = tt }

-- one point
pub fault-most : (h : Received) → fault_at h ≤ 2
unfolding fault_at
fault-most (Heard s) = go (is_coordinate s.x) (is_coordinate s.y)
  where
    go : (a b : Bool) → cond a (cond b 2 1) 0 ≤ 2
    go true true = omega arith
    go true false = omega arith
    go false b = omega arith
fault-most Missing = omega arith

point-fine : (h : Received) → InRange h → fault_at h ≡ 2
unfolding fault_at
point-fine (Heard s) r = rw (le-leb (nat_abs s.x) 8192 r.x-in, le-leb (nat_abs s.y) 8192 r.y-in)
point-fine Missing r = refl

point-in : (h : Received) → 2 ≤ fault_at h → InRange h
unfolding fault_at
point-in (Heard s) k = go (is_coordinate s.x) (is_coordinate s.y) refl refl k
  where
    go : (a b : Bool) → is_coordinate s.x ≡ a → is_coordinate s.y ≡ b → 2 ≤ cond a (cond b 2 1) 0 → SpotInRange s
    go true true e f k = record { x-in = leb-true (nat_abs s.x) 8192 e; y-in = leb-true (nat_abs s.y) 8192 f }
    go true false e f k = absurd (omega arith)
    go false b e f k = absurd (omega arith)
point-in Missing k = tt

module _ (y : Two Received) where
  pub no-fault : BothInRange y → fault_of y ≡ 4
  unfolding fault_of
  no-fault r = rw (point-fine y.first r.first-in, point-fine y.second r.second-in)

  pub in-range : ltb (fault_of y) 4 ≡ false → BothInRange y
  unfolding fault_of
  in-range k = go (ltb (fault_at y.first) 2) refl k
    where
      go : (b : Bool) → ltb (fault_at y.first) 2 ≡ b → ltb (cond b (fault_at y.first) (2 + fault_at y.second)) 4 ≡ false → BothInRange y
      go true e k = absurd (omega (arith, ltb-true (fault_at y.first) 2 e, ltb-false (fault_at y.first) 4 k))
      go false e k =
          record {
            first-in = point-in y.first (ltb-false (fault_at y.first) 2 e);
            second-in = point-in y.second (omega (arith, ltb-false (2 + fault_at y.second) 4 k));
          }
