-- The library's calls: what a C caller sees is a run of the two ends, so what a line is guaranteed holds of it too, and the table of Instances with it.
-- That words come back through noise is said of the library's calls in promises/proofs/Library (`back`, `begins`, `noisy-back`, `noisy-begins`).
--   library-guaranteed   for every n up to 127 and every window that is wide enough
use Prim.Native.Nat.{ℕ, ◌≤◌}
use native.Mathlib.Omega.{arith}
use lib.ListN.{length, get_or}
use Rattle.points.specs.declared.Accord.{Accord}
use Rattle.openings.specs.declared.Start.{Start}
use Rattle.c_states.specs.State.{sender_in, receiver_in}
use Rattle.promises.specs.Clean.{StartsAtZero}
use Rattle.promises.specs.Library.{taken, written}
use Rattle.promises.proofs.Follows.{follows}
use Rattle.promises.proofs.Library as library
use Rattle.margins.specs.Latest.{latest}
use Rattle.margins.specs.Guarantee.{LibraryGuarantee}
use Rattle.margins.proofs.NoSix.{few, all_but, fair}

pub library-guaranteed : (ac : Accord) (b : Start) → StartsAtZero b → (n w : ℕ) → n ≤ 127 → latest ac b n ≤ w → LibraryGuarantee ac b n w
library-guaranteed ac b z n w l wide =
    record {
      no_six = λ sent ps s k took ws state h q c out told long m state' o told' a.
          fair ac sent ps (sender_in s) (library.sent ac sent ps s k) n l b z w wide took q c (follows ac w b took ws (receiver_in state) (library.talks ac w b took ws state h)).fine.good_start
          (length out) (taken told') (written told') (record { number = m; place = get_or told' 2 0 }) (library.numbers ac w b took ws state h q out told long m state' o told' a);
      pending = λ sent ps s k v took ws state h c.
          omega (arith, few ac sent ps (sender_in s) (library.sent ac sent ps s k) n l b z v took ws (receiver_in state) (library.talks ac v b took ws state h) c, wide);
      no-late = λ sent ps s k v took ws state h c.
          all_but ac sent ps (sender_in s) (library.sent ac sent ps s k) n l b z v took ws (receiver_in state) (library.talks ac v b took ws state h) c w wide;
    }
