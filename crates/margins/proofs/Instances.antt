-- THE TABLE. How many line units each received coordinate may be off, so that a receiver with this window never answers 6, and no more symbols than
-- the window has are ever pending. Neighbouring points stand 256 units apart, 2 · 128.
--
--   window   start       accord             at most off   theorem
--   64       free or 0   any                61            window-64
--   64       0           any                66            window-64-named
--   32       free or 0   crowded            56            window-32
--   32       0           crowded            65            window-32-named
--   32       0           any                20            window-32-any-named
--   32       free or 0   any                 3            window-32-any
--   32       free or 0   any                 0            clean-any
--   26       0           any                 0            clean-any-named
--   14       free or 0   crowded             0            clean
--    8       0           crowded             0            clean-named
--
-- Each is of runs of the two ends and of the library's calls (`Guaranteed`, specs/Guarantee); words come back there, since 127 is more
-- (promises/proofs/Noise). 32 is the window of a plain opening. Crowded (specs/Latest) are the square map at every width and the round map at all
-- widths but 1, 4 and 5.
--   numbers      the bounds, computed; beyond, one unit more is too much for these windows
use mathlib.Core.Path.{◌≡◌, refl, subst, sym}
use mathlib.Core.Bool.{Bool, true, false}
use mathlib.Core.List.{[], ◌∷◌}
use Prim.Native.Nat.{ℕ, ◌≤◌}
use native.Mathlib.Omega.{arith}
use Rattle.points.specs.declared.Accord.{Accord}
use Rattle.trellis.specs.Measure as measure
use Rattle.openings.specs.declared.Start.{Start}
use Rattle.openings.specs.declared.Start.TheVariants.{At}
use Rattle.openings.specs.Given.{start_of}
use Rattle.promises.specs.Clean.{StartsAtZero}
use Rattle.margins.specs.Latest.{crowded, latest_of, latest}
use Rattle.margins.specs.Guarantee.{Guaranteed}
use Rattle.margins.proofs.NoSix.{guaranteed}
use Rattle.margins.proofs.Library.{library-guaranteed}

-- in the order of the table
pub numbers : latest_of false measure.free 61 ∷ latest_of false (measure.named 0) 66 ∷ latest_of true measure.free 56 ∷ latest_of true (measure.named 0) 65 ∷ latest_of false (measure.named 0) 20
    ∷ latest_of false measure.free 3 ∷ latest_of false measure.free 0 ∷ latest_of false (measure.named 0) 0 ∷ latest_of true measure.free 0 ∷ latest_of true (measure.named 0) 0 ∷ []
    ≡ 64 ∷ 64 ∷ 32 ∷ 32 ∷ 32 ∷ 32 ∷ 32 ∷ 26 ∷ 14 ∷ 8 ∷ []
numbers = refl

-- the first six are the most that the bound gives
pub beyond : latest_of false measure.free 62 ∷ latest_of false (measure.named 0) 67 ∷ latest_of true measure.free 57 ∷ latest_of true (measure.named 0) 66 ∷ latest_of false (measure.named 0) 21
    ∷ latest_of false measure.free 4 ∷ []
    ≡ 65 ∷ 65 ∷ 33 ∷ 33 ∷ 33 ∷ 33 ∷ []
beyond = refl

both-guaranteed : (ac : Accord) (b : Start) → StartsAtZero b → (n w : ℕ) → n ≤ 127 → latest ac b n ≤ w → Guaranteed ac b n w
both-guaranteed ac b z n w l h = record { ends = guaranteed ac b z n w l h; calls = library-guaranteed ac b z n w l h }

-- on any accord, and on a crowded one
module _ (ac : Accord) (b : Start) (z : StartsAtZero b) (n w : ℕ) (l : n ≤ 127) where
  any-window : ((c : Bool) → latest_of c (start_of b) n ≤ w) → Guaranteed ac b n w
  any-window h = both-guaranteed ac b z n w l (h (crowded ac))

  crowded-window : crowded ac ≡ true → latest_of true (start_of b) n ≤ w → Guaranteed ac b n w
  crowded-window e h = both-guaranteed ac b z n w l (subst (λ (c : Bool). latest_of c (start_of b) n ≤ w) (sym e) h)

-- free or 0: what holds with a free start holds with start 0
both-starts : (c : Bool) (b : measure.Start) (n w : ℕ) → latest_of c measure.free n ≤ w → latest_of c b n ≤ w
both-starts c measure.free n w h = h
both-starts c (measure.named s) n w h = omega arith

each : (P : Bool → Type 0) → P true → P false → (c : Bool) → P c
each P x y true = x
each P x y false = y

module _ (ac : Accord) where
  module _ (b : Start) (z : StartsAtZero b) where
    from-free : (n w : ℕ) → n ≤ 127 → latest_of true measure.free n ≤ w → latest_of false measure.free n ≤ w → Guaranteed ac b n w
    from-free n w l h k = any-window ac b z n w l (λ c. both-starts c (start_of b) n w (each (λ c. latest_of c measure.free n ≤ w) h k c))

    pub window-64 : Guaranteed ac b 61 64
    window-64 = from-free 61 64 (omega arith) (omega arith) (omega arith)

    pub window-32-any : Guaranteed ac b 3 32
    window-32-any = from-free 3 32 (omega arith) (omega arith) (omega arith)

    pub clean-any : Guaranteed ac b 0 32
    clean-any = from-free 0 32 (omega arith) (omega arith) (omega arith)

    module _ (e : crowded ac ≡ true) where
      pub window-32 : Guaranteed ac b 56 32
      window-32 = crowded-window ac b z 56 32 (omega arith) e (both-starts true (start_of b) 56 32 (omega arith))

      pub clean : Guaranteed ac b 0 14
      clean = crowded-window ac b z 0 14 (omega arith) e (both-starts true (start_of b) 0 14 (omega arith))

  named-any : (n w : ℕ) → n ≤ 127 → latest_of true (measure.named 0) n ≤ w → latest_of false (measure.named 0) n ≤ w → Guaranteed ac (At 0) n w
  named-any n w l h k = any-window ac (At 0) tt n w l (each (λ c. latest_of c (measure.named 0) n ≤ w) h k)

  pub window-64-named : Guaranteed ac (At 0) 66 64
  window-64-named = named-any 66 64 (omega arith) (omega arith) (omega arith)

  pub window-32-any-named : Guaranteed ac (At 0) 20 32
  window-32-any-named = named-any 20 32 (omega arith) (omega arith) (omega arith)

  pub clean-any-named : Guaranteed ac (At 0) 0 26
  clean-any-named = named-any 0 26 (omega arith) (omega arith) (omega arith)

  module _ (e : crowded ac ≡ true) where
    pub window-32-named : Guaranteed ac (At 0) 65 32
    window-32-named = crowded-window ac (At 0) tt 65 32 (omega arith) e (omega arith)

    pub clean-named : Guaranteed ac (At 0) 0 8
    clean-named = crowded-window ac (At 0) tt 0 8 (omega arith) e (omega arith)
