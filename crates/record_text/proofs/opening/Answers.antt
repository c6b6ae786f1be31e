-- `opening`: a further one, one that is refused, and one that answered 0.
use Rattle.std.proofs.Common.{subst, arith}
use Rattle.openings.specs.declared.Start.{Start}
use Rattle.openings.specs.Opening.{Opens}
use Rattle.answers.proofs.Answers.{number-near}
use Rattle.record_text.proofs.Notings.{ends-before, opens-first, opens_not}
use Rattle.record_text.proofs.opening.Goals as goal

pub returns-then-begun : goal.returns-then-begun
returns-then-begun c =
    let a = c.args in
    rw c.idle.ensures (ends-before a.rx a.begun a.accord a.window a.start a.bytes.now a.page.now c.if-begun.true)

pub returns-then-n-ne0 : goal.returns-then-n-ne0
returns-then-n-ne0 c =
    let a = c.args in
    rw c.idle-then-n-ne0.ensures
    (opens_not a.rx a.begun a.accord a.window a.start a.bytes.now a.page.now c.if-begun.false c.record_open-n.result _ c.record_open-n.ensures
    c.record_open-n.auto.bytes c.open_receiver-o.result
    (subst (λ (b : Start). Opens a.accord a.window b c.open_receiver-o.result) c.start_at.ensures c.open_receiver-o.ensures)
    _ c.number-at.result (omega (arith, number-near _ c.number-at.ensures, c.requires)) c.number-at.ensures c.if-n-ne0.true)

pub returns : goal.returns
returns c =
    let a = c.args in
    rw c.idle-2.ensures
    (opens-first a.rx a.begun a.accord a.window a.start a.bytes.now a.page.now c.if-begun.false c.record_open-n.result _ c.record_open-n.ensures
    c.record_open-n.auto.bytes c.open_receiver-o.result
    (subst (λ (b : Start). Opens a.accord a.window b c.open_receiver-o.result) c.start_at.ensures c.open_receiver-o.ensures)
    _ c.number-at.result (omega (arith, number-near _ c.number-at.ensures, c.requires)) c.number-at.ensures c.if-n-ne0.false)
