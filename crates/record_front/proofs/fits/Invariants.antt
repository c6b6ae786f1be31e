-- `fits`: the body fits where it does from the byte i on.
use Rattle.std.proofs.Common.{◌≡◌, get_or, drop}
use Rattle.records.specs.Values.{fits_from, body_fits}
use Rattle.record_front.proofs.fits.Given as goal

abbrev pub invariant-loop-i : goal.invariant-loop-i
invariant-loop-i l = fits_from l.kind (get_or l.body 0 0) l.i (drop l.i l.body) ≡ body_fits l.kind l.body
