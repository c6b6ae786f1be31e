-- WHAT A DROPOUT COSTS, where some of the library's calls are recorded and some are not, in any mix (promises/specs/EveryCall): such a run is a run of
-- plain calls (promises/proofs/EveryCall), so the theorems of proofs/Library hold of it.
--   spoiled-back, noisy, euclid, begins, noisy-begins    as in Dropouts
use mathlib.Core.List.{List, ◌++◌}
use Prim.Native.Nat.{ℕ, ◌<◌}
use lib.Dec.{T}
use lib.IntN.{ℤ}
use lib.ListN.{length, take}
use mathlib.Core.Bool.{false}
use Rattle.points.specs.declared.Accord.{Accord}
use Rattle.trellis.specs.Measure.{Two}
use Rattle.trellis.specs.Words.{as_heard}
use Rattle.distance.specs.Distance.{distance}
use Rattle.nearest.specs.declared.Received.{Received}
use Rattle.openings.specs.declared.Start.{Start}
use Rattle.openings.specs.Given.{start_of}
use Rattle.promises.specs.Clean.{StartsAtZero}
use Rattle.promises.specs.Noise.{Near, OnlyNearest}
use Rattle.promises.specs.Library.{LibrarySends}
use Rattle.promises.specs.EveryCall.{LibraryMixed, LibraryMixedEnded}
use Rattle.promises.proofs.EveryCall.{library-plainly, library-ended-plainly}
use Rattle.dropouts.specs.Gaps.{Partly, rested, fixed}
use Rattle.dropouts.specs.Spoiled.{CameBack}
use Rattle.dropouts.proofs.Library as plain

module _ (k : Accord) (words : List ℕ) (ps : List ℤ) (state : List ℕ) (s : LibrarySends k words ps state) (w : ℕ) (b : Start) (z : StartsAtZero b) where
  module _ (took : List (Two Received)) (r : T (rested 0 took)) (f : T (fixed (start_of b) took)) (ws : List ℕ) (e : LibraryMixedEnded k w b took ws) where
    pub spoiled-back : Partly (OnlyNearest k) took ps → CameBack k.u false took (as_heard (start_of b) words) ws
    spoiled-back c = plain.spoiled-back k words ps state s w b z took r f c ws (library-ended-plainly k w b e)

    pub noisy : Partly (Near 127) took ps → CameBack k.u false took (as_heard (start_of b) words) ws
    noisy c = plain.noisy k words ps state s w b z took r f c ws (library-ended-plainly k w b e)

    pub euclid : Partly (λ h p. distance h p < 16384) took ps → CameBack k.u false took (as_heard (start_of b) words) ws
    euclid c = plain.euclid k words ps state s w b z took r f c ws (library-ended-plainly k w b e)

  module _ (took zs : List (Two Received)) (r : T (rested 0 (took ++ zs))) (f : T (fixed (start_of b) (took ++ zs))) (ws state' : List ℕ) (h : LibraryMixed k w b took ws state') where
    pub begins : Partly (OnlyNearest k) (took ++ zs) ps → CameBack k.u false (take (length ws) (took ++ zs)) (as_heard (start_of b) words) ws
    begins c = plain.begins k words ps state s w b z took zs r f c ws state' (library-plainly k w b h)

    pub noisy-begins : Partly (Near 127) (took ++ zs) ps → CameBack k.u false (take (length ws) (took ++ zs)) (as_heard (start_of b) words) ws
    noisy-begins c = plain.noisy-begins k words ps state s w b z took zs r f c ws state' (library-plainly k w b h)
