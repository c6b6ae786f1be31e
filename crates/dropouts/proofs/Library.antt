-- WHAT A DROPOUT COSTS, OF THE LIBRARY FOR C. The theorem of proofs/Dropouts on runs of the library's calls: the sender's words and coordinates, the symbols
-- taken and the words written are what a C caller reads off `told` and the outputs (promises/specs/Library), with `demfizagu_hear`,
-- `demfizagu_hear_marked` and a finish that gave 0. `symbols_with ms xs` are the symbols of the coordinates xs with the marks ms (receiver_meaning/specs/Piece).
--   spoiled-back, noisy, euclid, begins, noisy-begins    as in Dropouts
--   clean-marked    the sender's coordinates, 128 times, with marks that obey the rule
use mathlib.Core.Bool.{false}
use mathlib.Core.List.{List, ◌++◌}
use Prim.Native.Nat.{ℕ, ◌<◌}
use lib.Dec.{T}
use lib.IntN.{ℤ}
use lib.ListN.{length, take}
use Rattle.points.specs.declared.Accord.{Accord}
use Rattle.trellis.specs.Measure.{Two}
use Rattle.trellis.specs.Words.{as_heard}
use Rattle.distance.specs.Distance.{distance}
use Rattle.nearest.specs.declared.Received.{Received}
use Rattle.receiver_meaning.specs.Piece.{symbols_with}
use Rattle.openings.specs.declared.Start.{Start}
use Rattle.openings.specs.Given.{start_of}
use Rattle.c_states.specs.State.{sender_in, receiver_in}
use Rattle.promises.specs.Clean.{all_on_line, StartsAtZero}
use Rattle.promises.specs.Library.{LibrarySends, LibraryHears, LibraryEnded}
use Rattle.promises.proofs.Library.{talks, ended, sent}
use Rattle.promises.specs.Noise.{Near, OnlyNearest}
use Rattle.dropouts.specs.Gaps.{Partly, rested, fixed}
use Rattle.dropouts.specs.Spoiled.{CameBack}
use Rattle.dropouts.proofs.Dropouts as doors

module _ (k : Accord) (words : List ℕ) (ps : List ℤ) (state : List ℕ) (s : LibrarySends k words ps state) (w : ℕ) (b : Start) (z : StartsAtZero b) where
  module _ (took : List (Two Received)) (r : T (rested 0 took)) (f : T (fixed (start_of b) took)) where
    -- no other point as near
    pub spoiled-back : Partly (OnlyNearest k) took ps → (ws : List ℕ) → LibraryEnded k w b took ws → CameBack k.u false took (as_heard (start_of b) words) ws
    spoiled-back c ws e = doors.spoiled-back k words ps (sender_in state) (sent k words ps state s) w b z took r f c ws (ended k w b took ws e)

    -- within 127 line units in each coordinate
    pub noisy : Partly (Near 127) took ps → (ws : List ℕ) → LibraryEnded k w b took ws → CameBack k.u false took (as_heard (start_of b) words) ws
    noisy c ws e = doors.noisy k words ps (sender_in state) (sent k words ps state s) w b z took r f c ws (ended k w b took ws e)

    -- less than 128 line units away
    pub euclid : Partly (λ h p. distance h p < 16384) took ps → (ws : List ℕ) → LibraryEnded k w b took ws → CameBack k.u false took (as_heard (start_of b) words) ws
    euclid c ws e = doors.euclid k words ps (sender_in state) (sent k words ps state s) w b z took r f c ws (ended k w b took ws e)

  -- before a finish: the symbols `took` so far, and any zs with which the line goes on by the rule
  module _ (took zs : List (Two Received)) (r : T (rested 0 (took ++ zs))) (f : T (fixed (start_of b) (took ++ zs))) where
    pub begins : Partly (OnlyNearest k) (took ++ zs) ps → (ws state' : List ℕ) → LibraryHears k w b took ws state' → CameBack k.u false (take (length ws) (took ++ zs)) (as_heard (start_of b) words) ws
    begins c ws state' e = doors.begins k words ps (sender_in state) (sent k words ps state s) w b z took zs r f c ws (receiver_in state') (talks k w b took ws state' e)

    pub noisy-begins : Partly (Near 127) (took ++ zs) ps → (ws state' : List ℕ) → LibraryHears k w b took ws state' → CameBack k.u false (take (length ws) (took ++ zs)) (as_heard (start_of b) words) ws
    noisy-begins c ws state' e = doors.noisy-begins k words ps (sender_in state) (sent k words ps state s) w b z took zs r f c ws (receiver_in state') (talks k w b took ws state' e)

  -- nothing moved: the caller hands over the sender's coordinates, 128 times, with the marks ms
  pub clean-marked : (ms : List ℕ) → T (rested 0 (symbols_with ms (all_on_line ps))) → T (fixed (start_of b) (symbols_with ms (all_on_line ps))) →
      (ws : List ℕ) → LibraryEnded k w b (symbols_with ms (all_on_line ps)) ws → CameBack k.u false (symbols_with ms (all_on_line ps)) (as_heard (start_of b) words) ws
  clean-marked ms r f ws e = doors.clean-marked k words ps (sender_in state) (sent k words ps state s) w b z ms r f ws (ended k w b (symbols_with ms (all_on_line ps)) ws e)
