-- `fits`: from the byte i on the body fits if this byte may be there and it fits from the next one on.
use Rattle.std.proofs.Common.{sym, ◌∙◌}
use Rattle.records.proofs.Fits.{fit-here, unfit-here, fit-end}
use Rattle.record_front.proofs.fits.Goals as goal

pub returns-then-not-byte_fits : goal.returns-then-not-byte_fits
returns-then-not-byte_fits c =
    sym (unfit-here _ _ _ _ c.loop-i-test.true (sym c.byte_fits.ensures ∙ c.if-not-byte_fits.true)) ∙ c.loop-i.invariant

pub loop-i-preserved : goal.loop-i-preserved
loop-i-preserved c =
    fit-here _ _ _ _ c.loop-i-test.true (sym c.byte_fits.ensures ∙ c.if-not-byte_fits.false) ∙ c.loop-i.invariant

pub returns : goal.returns
returns c = sym (fit-end _ _ _ _ c.loop-i-test.false) ∙ c.loop-i.invariant
