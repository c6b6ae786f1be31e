-- From the coordinates that a sender wrote to the symbols that it sent: what a line carries stands beside the sent symbols.
--   LandedOn k P r c     both points of r were heard, and P holds of them and of those of the symbol c
--   carried-along        what is carried stands beside the symbols sent, as many as were received
--   carried-front        the first of what is carried is carried
--   sent-written         the coordinates that a sender wrote are those of its symbols
--   Serves k P           P holds only where no other point is as near, and the distance is below the cap
--   only-serves, near-serves, euclid-serves   so do `OnlyNearest`, `Near n` up to 127, and a distance below 128 line units
--   serves-closest       then each received symbol is closest to the one sent in its place
--   clean-carried        a clean line is 0 off
--   clean-closest        and each received symbol of it is closest to its own
use mathlib.Core.Path.{◌≡◌, ap, ◌∙◌}
use mathlib.Core.Bool.{true}
use mathlib.Core.List.{List, [], ◌∷◌, ◌++◌}
use Prim.Native.Nat.{ℕ, ◌^◌, ◌≤◌, ◌<◌}
use native.Mathlib.Omega.{arith}
use lib.IntN.{ℤ, nat_abs, +ℤ_invr}
use lib.ListN.{length, take}
use Rattle.wei.specs.State.{next_state}
use Rattle.wei.specs.Symbol.{Symbol, first_label, last_label, Valid, symbol_of, symbols_from}
use Rattle.points.specs.declared.Accord.{Accord}
use Rattle.points.specs.declared.Point.{Point}
use Rattle.points.specs.Agreed.{is_accord}
use Rattle.maps.specs.PointMap.{point_at, first_at, second_at}
use Rattle.trellis.specs.Lists.{Every}
use Rattle.trellis.specs.Measure.{Two}
use Rattle.distance.specs.declared.Spot.{Spot}
use Rattle.distance.specs.Distance.{on_line, difference, distance}
use Rattle.nearest.specs.declared.Received.{Received}
use Rattle.nearest.specs.declared.Received.TheVariants.{Heard, Missing}
use Rattle.nearest.specs.Found.{heard_as}
use Rattle.nearest.specs.Line.{line_measure}
use Rattle.sender.specs.Send.{four}
use Rattle.sender.specs.Run as sender
use Rattle.sender.specs.declared.Sender.{Sender}
use Rattle.sender.proofs.Run.{ran}
use Rattle.receiver_meaning.specs.Piece.{symbols_of}
use Rattle.promises.specs.Clean.{all_on_line}
use Rattle.trellis.specs.Along.{Along, Closest}
use Rattle.promises.specs.Noise.{Near, OnlyNearest, Landed, Carried}
use Rattle.trellis.proofs.Sent.{along-valid}
use Rattle.promises.proofs.Points.{euclid-near, wider, near-only, only-closest, first_below, last-below}

pub record LandedOn (k : Accord) (P : Spot → Point → Type 0) (r : Two Received) (c : Symbol) : Type 0 where
  pub on-first : Landed P r.first (first_at k c)
  pub on-second : Landed P r.second (second_at k c)

-- from any state and turn
pub carried-along : (k : Accord) (P : Spot → Point → Type 0) (s q : ℕ) (ns : List ℕ) (rs : List (Two Received)) → Carried P rs (sender.coordinates_of k (symbols_from k.u s q ns)) →
    Along (LandedOn k P) rs (symbols_from k.u s q (take (length rs) ns))
unfolding symbols_from four
carried-along k P s q ns [] h = tt
carried-along k P s q [] (r ∷ rs) h = absurd h
carried-along k P s q (n ∷ ns) (r ∷ rs) h =
    let c = symbol_of k.u s q n in
    (record { on-first = h.0; on-second = h.1 }, carried-along k P (next_state s c.i1 c.i2) (first_label c) ns rs h.2)

pub carried-front : (P : Spot → Point → Type 0) (xs zs : List (Two Received)) (ps : List ℤ) → Carried P (xs ++ zs) ps → Carried P xs ps
carried-front P [] zs ps h = tt
carried-front P (x ∷ xs) zs [] h = absurd h
carried-front P (x ∷ xs) zs (a ∷ []) h = absurd h
carried-front P (x ∷ xs) zs (a ∷ b ∷ []) h = absurd h
carried-front P (x ∷ xs) zs (a ∷ b ∷ c ∷ []) h = absurd h
carried-front P (x ∷ xs) zs (a ∷ b ∷ c ∷ d ∷ ps) h = (h.0, h.1, carried-front P xs zs ps h.2)

pub sent-written : (k : Accord) (sent : List ℕ) (ps : List ℤ) (s : Sender) → sender.Talk k sent ps s → ps ≡ sender.coordinates_of k (symbols_from k.u 0 0 sent)
sent-written k sent ps s t = let r = ran k sent ps s t in r.written ∙ ap (sender.coordinates_of k) r.are

-- ---- which relations serve

abbrev pub Serves : Accord → (Spot → Point → Type 0) → Type 0
Serves k P = (h : Spot) (l w : ℕ) → l < 4 → w < 2 ^ k.u → P h (point_at k l w) → OnlyNearest k h (point_at k l w)

pub only-serves : (k : Accord) → Serves k (OnlyNearest k)
only-serves k h l w a b z = z

pub near-serves : (k : Accord) → is_accord k ≡ true → (n : ℕ) → n ≤ 127 → Serves k (Near n)
near-serves k g n m h l w a b z = near-only k g h l w a b (wider n 127 h (point_at k l w) m z)

pub euclid-serves : (k : Accord) → is_accord k ≡ true → Serves k (λ h p. distance h p < 16384)
euclid-serves k g h l w a b z = near-only k g h l w a b (euclid-near h (point_at k l w) z)

module _ (k : Accord) (a : is_accord k ≡ true) (P : Spot → Point → Type 0) (S : Serves k P) where
  symbol-closest : (r : Two Received) (c : Symbol) → Valid k.u c → LandedOn k P r c → Closest k.u (line_measure k) r c
  unfolding first_at second_at
  symbol-closest r c v z = go r.first r.second z.on-first z.on-second
    where
      go : (f s : Received) → Landed P f (first_at k c) → Landed P s (second_at k c) → Closest k.u (line_measure k) (heard_as f s) c
      go (Heard g) (Heard h) x y =
          only-closest k a c v g h (S g (first_label c) c.w1 (first_below k.u c v) v.w1-below x) (S h (last_label c) c.w2 (last-below c) v.w2-below y)
      go (Heard g) Missing x y = absurd y
      go Missing s x y = absurd x

  pub serves-closest : (rs : List (Two Received)) (cs : List Symbol) → Every (Valid k.u) cs → Along (LandedOn k P) rs cs → Along (Closest k.u (line_measure k)) rs cs
  serves-closest = along-valid (Valid k.u) (LandedOn k P) (Closest k.u (line_measure k)) symbol-closest

-- ---- a clean line

nowhere : (c : ℤ) → nat_abs (difference (on_line c) c) ≤ 0
nowhere c = let e : nat_abs (difference (on_line c) c) ≡ 0 = ap nat_abs (+ℤ_invr (on_line c)) in omega arith

near-itself : (p : Point) → Near 0 (record { x = on_line p.x; y = on_line p.y }) p
near-itself p = record { x-near = nowhere p.x; y-near = nowhere p.y }

pub clean-carried : (k : Accord) (cs : List Symbol) → Carried (Near 0) (symbols_of (all_on_line (sender.coordinates_of k cs))) (sender.coordinates_of k cs)
unfolding four
clean-carried k [] = tt
clean-carried k (c ∷ cs) = (near-itself (first_at k c), near-itself (second_at k c), clean-carried k cs)

clean-along : (k : Accord) (cs : List Symbol) → Along (LandedOn k (Near 0)) (symbols_of (all_on_line (sender.coordinates_of k cs))) cs
unfolding four
clean-along k [] = tt
clean-along k (c ∷ cs) = (record { on-first = near-itself (first_at k c); on-second = near-itself (second_at k c) }, clean-along k cs)

pub clean-closest : (k : Accord) → is_accord k ≡ true → (cs : List Symbol) → Every (Valid k.u) cs → Along (Closest k.u (line_measure k)) (symbols_of (all_on_line (sender.coordinates_of k cs))) cs
clean-closest k a cs v = serves-closest k a (Near 0) (near-serves k a 0 (omega arith)) (symbols_of (all_on_line (sender.coordinates_of k cs))) cs v (clean-along k cs)
