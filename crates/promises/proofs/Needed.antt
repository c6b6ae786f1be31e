-- Why words come back only under the conditions of proofs/Noise: two computed lines of one symbol, where the word 4 was sent and the word after a
-- finish is 0. The answers are rows of worked_cases/specs/Lines.
--   cap-needed    each point strictly nearest to the one sent, but beyond the cap
--   half-needed   each coordinate 128 line units off, one more than is promised
use mathlib.Core.Path.{◌≡◌, refl, sym, subst, ◌∙◌}
use mathlib.Core.List.{List, [], ◌∷◌}
use Prim.Native.Nat.{ℕ, zero, suc, ◌<◌}
use native.Mathlib.Omega.{arith}
use lib.Dec.{leb→le, ltb→lt}
use lib.IntN.{ℤ, pos, negsuc}
use Rattle.wei.specs.Word.{unpacked}
use Rattle.wei.specs.State.{next_state}
use Rattle.wei.specs.Label.{second_label}
use Rattle.wei.specs.Symbol.{last_label, symbol_of, symbols_from}
use Rattle.points.specs.Agreed.{of_width}
use Rattle.points.specs.Points.{coordinates, a_point}
use Rattle.points.specs.Turn.{point_of}
use Rattle.maps.specs.PointMap.{first_at, second_at}
use Rattle.distance.specs.Distance.{distance}
use Rattle.openings.specs.declared.Start.TheVariants.{At}
use Rattle.sender.specs.declared.Sender.{Sender}
use Rattle.sender.specs.Send.{four}
use Rattle.sender.specs.Run as sender
use Rattle.worked_cases.specs.Lines.{beyond, midway}
use Rattle.worked_cases.proofs.Lines.{beyond-holds, midway-holds}
use Rattle.promises.specs.Talk.{Talk, Ended}
use Rattle.promises.specs.Noise.{Near, Nearer, Carried}
use Rattle.promises.proofs.Follows.{answers}
use Rattle.promises.proofs.Carried.{sent-written}

-- a point (-1, -1) heard at the corner (-8192, -8192): no other point of width 0 is as near
strictly : (l w : ℕ) → l < 4 → w < 1 → (point_of l w ≡ record { x = negsuc 0; y = negsuc 0 } → ⊥) →
    distance (record { x = negsuc 8191; y = negsuc 8191 }) (record { x = negsuc 0; y = negsuc 0 }) < distance (record { x = negsuc 8191; y = negsuc 8191 }) (point_of l w)
unfolding point_of a_point coordinates distance
strictly l (suc w) h k n = absurd (omega arith)
strictly zero zero h k n = ltb→lt _ _ tt
strictly (suc zero) zero h k n = ltb→lt _ _ tt
strictly (suc (suc zero)) zero h k n = absurd (n refl)
strictly (suc (suc (suc zero))) zero h k n = ltb→lt _ _ tt
strictly (suc (suc (suc (suc l)))) zero h k n = absurd (omega arith)

-- the coordinates of the word 4
four-written : sender.coordinates_of (of_width 0) (symbols_from 0 0 0 (4 ∷ [])) ≡ negsuc 0 ∷ negsuc 0 ∷ negsuc 0 ∷ negsuc 0 ∷ []
unfolding four symbols_from symbol_of unpacked next_state last_label second_label first_at second_at point_of a_point coordinates
four-written = refl

-- the word 4 at width 0, heard at the corner: each sent point is strictly nearest, and the word that comes back is 0, since beyond the cap
-- all points count for the same and the smaller I3' decides
pub cap-needed : (ps : List ℤ) (s : Sender) → sender.Talk (of_width 0) (4 ∷ []) ps s → (w : ℕ) (ws : List ℕ) → Ended (of_width 0) w (At 0) beyond.received ws →
    Carried (Nearer (of_width 0)) beyond.received ps × (ws ≡ 0 ∷ [])
cap-needed ps s k w ws e = (
  subst (Carried (Nearer (of_width 0)) beyond.received) (sym (sent-written (of_width 0) (4 ∷ []) ps s k ∙ four-written)) (strictly, strictly, tt),
  answers (of_width 0) w (At 0) beyond.received ws e ∙ beyond-holds.1,
)

half-off : Near 128 (record { x = pos 0; y = pos 0 }) (record { x = negsuc 0; y = negsuc 0 })
half-off = record { x-near = leb→le 128 128 tt; y-near = leb→le 128 128 tt }

-- midway between the four points of width 0 none is nearest, and the first of those that tie is not the one sent
pub half-needed : (ps : List ℤ) (s : Sender) → sender.Talk (of_width 0) (4 ∷ []) ps s → (w : ℕ) (ws : List ℕ) → Ended (of_width 0) w (At 0) midway.received ws →
    Carried (Near 128) midway.received ps × (ws ≡ 0 ∷ [])
half-needed ps s k w ws e = (
  subst (Carried (Near 128) midway.received) (sym (sent-written (of_width 0) (4 ∷ []) ps s k ∙ four-written)) (half-off, half-off, tt),
  answers (of_width 0) w (At 0) midway.received ws e ∙ midway-holds.1,
)
