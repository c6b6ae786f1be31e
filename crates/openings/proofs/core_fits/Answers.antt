-- `core_fits`: all the tests together.
use Rattle.std.proofs.Common.{arith}
use Rattle.std.proofs.lemmas.Grind.{common_steps}
use Rattle.std.proofs.lemmas.Bool.Decides.{nat_tests}
use Rattle.machine.specs.Machine.{sound_core}
use Rattle.openings.proofs.core_fits.Goals as goal

pub returns-then-c-lt64 : goal.returns-then-c-lt64
unfolding sound_core
returns-then-c-lt64 c = grind (arith, common_steps, nat_tests)

pub returns-else-c-lt64 : goal.returns-else-c-lt64
unfolding sound_core
returns-else-c-lt64 c = grind (arith, common_steps, nat_tests)
