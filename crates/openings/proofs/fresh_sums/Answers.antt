-- `fresh_sums`: all zeros, or one among sums that no state reaches.
use mathlib.Core.Path.{◌≡◌, sym, ap, ◌∙◌}
use mathlib.Core.Bool.{true}
use Prim.Native.Nat.{ℕ, ◌<◌}
use native.Mathlib.Omega.{arith}
use borrow.Author.Tests.{leb-true}
use Rattle.machine.specs.Machine.{fresh_sums}
use Rattle.openings.specs.declared.Start.{Start}
use Rattle.openings.specs.declared.Start.TheVariants.{At}
use Rattle.openings.specs.Given.{start_of, start_fits}
use Rattle.openings.proofs.Openings.{named-sums}
use Rattle.openings.proofs.fresh_sums.Goals as goal

below : (b : Start) (n : ℕ) → b ≡ At n → start_fits b ≡ true → n < 16
below b n e f = omega (arith, leb-true n 15 (sym (ap start_fits e) ∙ f))

pub returns-in-Free : goal.returns-in-Free
unfolding fresh_sums
returns-in-Free c = sym (ap (λ (b : Start). fresh_sums (start_of b)) c.in-Free.is)

pub returns-in-At : goal.returns-in-At
returns-in-At c = named-sums _ (below _ _ c.in-At.is c.requires) ∙ sym (ap (λ (b : Start). fresh_sums (start_of b)) c.in-At.is)
