-- `finish::read`: one number.
use Rattle.std.proofs.Common.{ap}
use Rattle.requests.specs.declared.Request.TheVariants as request
use Rattle.requests.specs.Verb.{unless_unread}
use Rattle.requests.proofs.Readers.{cap-reader, one-read}
use Rattle.requests.proofs.finish.read.Goals as goal

pub returns-in_err-cap : goal.returns-in_err-cap
returns-in_err-cap c =
    rw c.from_residual.ensures (ap unless_unread (one-read cap-reader request.Finish _ c.in_err-cap.ensures))

pub returns : goal.returns
returns c =
    ap unless_unread (one-read cap-reader request.Finish _ c.in_ok-cap.ensures)
