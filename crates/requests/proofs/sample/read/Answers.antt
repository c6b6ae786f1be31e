-- `sample::read`: a token alone, or two numbers.
use Rattle.std.proofs.Common.{ap, ◌∙◌, refl, sym, true, false}
use Rattle.text.specs.Number.{hex_of}
use Rattle.requests.specs.declared.Request.TheVariants as request
use Rattle.requests.specs.Verb.{unless_unread}
use Rattle.requests.proofs.Readers.{hex-reader, two-read, sample-alone, sample-more}
use Rattle.requests.proofs.sample.read.Goals as goal

pub returns-then-same : goal.returns-then-same
returns-then-same c =
    ap unless_unread (sample-alone c.before-n.ensures true c.if-n-rest.true (sym c.if-same.true ∙ c.same.ensures))

pub returns-then-n-rest : goal.returns-then-n-rest
returns-then-n-rest c =
    ap unless_unread (sample-alone c.before-n.ensures false c.if-n-rest.true (sym c.if-same.false ∙ c.same.ensures))

pub returns-in_err-x : goal.returns-in_err-x
returns-in_err-x c =
    rw c.from_residual.ensures (ap unless_unread (two-read hex-reader request.Sample hex_of c.before-n.ensures c.if-n-rest.false c.in_err-x.ensures refl
    ∙ sample-more c.before-n.ensures c.if-n-rest.false))

pub returns-in_err-y : goal.returns-in_err-y
returns-in_err-y c =
    rw c.from_residual-in_err-y.ensures (ap unless_unread (two-read hex-reader request.Sample hex_of c.before-n.ensures c.if-n-rest.false c.in_ok-x.ensures c.in_err-y.ensures
    ∙ sample-more c.before-n.ensures c.if-n-rest.false))

pub returns : goal.returns
returns c =
    ap unless_unread (two-read hex-reader request.Sample hex_of c.before-n.ensures c.if-n-rest.false c.in_ok-x.ensures c.in_ok-y.ensures
    ∙ sample-more c.before-n.ensures c.if-n-rest.false)
