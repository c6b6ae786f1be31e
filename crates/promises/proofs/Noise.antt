-- WORDS COME BACK THROUGH NOISE. A fresh sender's points, each heard nearer to itself than to any other point of the width and map, whatever
-- its label, and nearer than the cap, come back as the words sent: on either map, at every width, with a free start or start 0 and any window,
-- however the list is cut into calls. It is so wherever each received coordinate is at most 127 line units from 128 times the coordinate that
-- the sender wrote: less than half of the 256 between neighbouring points. Demand 2's round trip is the case of 0 units (proofs/Demand2).
--
-- `sender.Talk ac sent ps s` is any run of calls on a sender that accepted the words `sent` and wrote the coordinates ps for them; `Carried P
-- took ps` (specs/Noise) says that P holds of each received point taken and of the point sent in its place. Talk and Ended are any runs of calls
-- on a receiver (specs/Talk). `as_heard` (trellis/specs/Words) clears bits 1 and 2 of the first word with a free start (02, Wish 5), and
-- changes nothing with start 0.
--   back, begins               only the sent points nearest: after a finish that succeeded the words are the first ones sent, as many as
--                              symbols were taken; and before it what is written begins the words sent
--   noisy-back, noisy-begins   the same at most 127 line units off in each coordinate
--   near-back, near-begins     and less than 128 line units away: a squared distance below 16384
--   whole                      with as many symbols taken as words were sent these are all words
-- Why below the cap, and why not 128 units, is in proofs/Needed: two computed lines.
use mathlib.Core.Path.{◌≡◌, sym, ap, ◌∙◌}
use mathlib.Core.List.{List, IsPrefix}
use Prim.Native.Nat.{ℕ, ◌≤◌, ◌<◌}
use native.Mathlib.Omega.{arith}
use lib.IntN.{ℤ}
use lib.ListN.{length, take}
use lib.Seq.{take_all}
use Rattle.points.specs.declared.Accord.{Accord}
use Rattle.trellis.specs.Measure.{Two}
use Rattle.trellis.specs.Words.{as_heard}
use Rattle.trellis.proofs.Words.{heard-take}
use Rattle.distance.specs.Distance.{distance}
use Rattle.nearest.specs.declared.Received.{Received}
use Rattle.openings.specs.Opening.{Receiver}
use Rattle.openings.specs.declared.Start.{Start}
use Rattle.openings.specs.Given.{start_of}
use Rattle.sender.specs.declared.Sender.{Sender}
use Rattle.sender.specs.Run as sender
use Rattle.promises.specs.Talk.{Talk, Ended}
use Rattle.promises.specs.Clean.{StartsAtZero}
use Rattle.promises.specs.Noise.{Near, OnlyNearest, Carried}
use Rattle.promises.proofs.Clean.{agreed-sent}
use Rattle.promises.proofs.Carried.{Serves, only-serves, near-serves, euclid-serves}
use Rattle.promises.proofs.Served.{served-back, served-begins}

module _ (ac : Accord) (w : ℕ) (b : Start) (z : StartsAtZero b) (sent : List ℕ) (ps : List ℤ) (s : Sender) (k : sender.Talk ac sent ps s) (took : List (Two Received)) where
  pub back : Carried (OnlyNearest ac) took ps → (ws : List ℕ) → Ended ac w b took ws → ws ≡ take (length took) (as_heard (start_of b) sent)
  back c = served-back ac sent ps s k (OnlyNearest ac) (only-serves ac) took c w b z

  pub begins : Carried (OnlyNearest ac) took ps → (ws : List ℕ) (rx : Receiver) → Talk ac w b took ws rx → IsPrefix ws (as_heard (start_of b) sent)
  begins c = served-begins ac sent ps s k (OnlyNearest ac) (only-serves ac) took c w b z

  up_to : (n : ℕ) → n ≤ 127 → Serves ac (Near n)
  up_to = near-serves ac (agreed-sent ac sent ps s k)

  pub noisy-back : Carried (Near 127) took ps → (ws : List ℕ) → Ended ac w b took ws → ws ≡ take (length took) (as_heard (start_of b) sent)
  noisy-back c = served-back ac sent ps s k (Near 127) (up_to 127 (omega arith)) took c w b z

  pub noisy-begins : Carried (Near 127) took ps → (ws : List ℕ) (rx : Receiver) → Talk ac w b took ws rx → IsPrefix ws (as_heard (start_of b) sent)
  noisy-begins c = served-begins ac sent ps s k (Near 127) (up_to 127 (omega arith)) took c w b z

  pub near-back : Carried (λ h p. distance h p < 16384) took ps → (ws : List ℕ) → Ended ac w b took ws → ws ≡ take (length took) (as_heard (start_of b) sent)
  near-back c = served-back ac sent ps s k (λ h p. distance h p < 16384) (euclid-serves ac (agreed-sent ac sent ps s k)) took c w b z

  pub near-begins : Carried (λ h p. distance h p < 16384) took ps → (ws : List ℕ) (rx : Receiver) → Talk ac w b took ws rx → IsPrefix ws (as_heard (start_of b) sent)
  near-begins c = served-begins ac sent ps s k (λ h p. distance h p < 16384) (euclid-serves ac (agreed-sent ac sent ps s k)) took c w b z

-- with as many symbols taken as words were sent
pub whole : (b : Start) (sent : List ℕ) (n : ℕ) → n ≡ length sent → take n (as_heard (start_of b) sent) ≡ as_heard (start_of b) sent
whole b sent n e = sym (heard-take (start_of b) n sent) ∙ ap (as_heard (start_of b)) (take_all n sent (omega arith))
