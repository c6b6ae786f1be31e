-- `send::read`: two numbers.
use Rattle.std.proofs.Common.{ap, refl}
use Rattle.requests.specs.declared.Request.TheVariants as request
use Rattle.requests.specs.Verb.{unless_unread, any_number}
use Rattle.requests.proofs.Readers.{cap-reader, two-read, two-alone}
use Rattle.requests.proofs.send.read.Goals as goal

pub returns-then-n-rest : goal.returns-then-n-rest
returns-then-n-rest c =
    ap unless_unread (two-alone c.before-n.ensures _ c.if-n-rest.true)

pub returns-in_err-word : goal.returns-in_err-word
returns-in_err-word c =
    rw c.from_residual.ensures (ap unless_unread (two-read cap-reader request.Send any_number c.before-n.ensures c.if-n-rest.false c.in_err-word.ensures refl))

pub returns-in_err-cap : goal.returns-in_err-cap
returns-in_err-cap c =
    rw c.from_residual-in_err-cap.ensures (ap unless_unread (two-read cap-reader request.Send any_number c.before-n.ensures c.if-n-rest.false c.in_ok-word.ensures c.in_err-cap.ensures))

pub returns : goal.returns
returns c =
    ap unless_unread (two-read cap-reader request.Send any_number c.before-n.ensures c.if-n-rest.false c.in_ok-word.ensures c.in_ok-cap.ensures)
