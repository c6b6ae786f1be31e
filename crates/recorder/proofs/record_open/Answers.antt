-- `record_open`: too short, refused, or recorded.
use mathlib.Core.Path.{subst}
use Rattle.openings.specs.declared.Start.{Start}
use Rattle.openings.specs.Opening.{Opens}
use Rattle.recorder.proofs.Opens.{open-short, open-refused, open_done, open-small}
use Rattle.recorder.proofs.record_open.Goals as goal

pub returns-then-bytes-lt4 : goal.returns-then-bytes-lt4
returns-then-bytes-lt4 c = open-short c.args.accord c.args.window c.args.start c.args.bytes.now c.if-bytes-lt4.true

pub returns-then-n-ne0 : goal.returns-then-n-ne0
returns-then-n-ne0 c =
    let a = c.args in
    open-refused a.accord a.window a.start a.bytes.now c.if-bytes-lt4.false _
    (subst (λ (b : Start). Opens a.accord a.window b c.open_receiver-o.result) c.start_at.ensures c.open_receiver-o.ensures) c.number-n.result c.number-n.ensures c.if-n-ne0.true

pub put_open-requires : goal.put_open-requires
put_open-requires c =
    let a = c.args in
    let k =
    open-small a.accord a.window a.start a.bytes.now c.if-bytes-lt4.false _
    (subst (λ (b : Start). Opens a.accord a.window b c.open_receiver-o.result) c.start_at.ensures c.open_receiver-o.ensures) c.number-n.result c.number-n.ensures c.if-n-ne0.false in
    (c.if-bytes-lt4.false, k.0, k.1, k.2)

pub returns : goal.returns
returns c =
    let a = c.args in
    open_done a.accord a.window a.start a.bytes.now c.if-bytes-lt4.false _
    (subst (λ (b : Start). Opens a.accord a.window b c.open_receiver-o.result) c.start_at.ensures c.open_receiver-o.ensures) c.number-n.result c.number-n.ensures c.if-n-ne0.false _
    c.put_open.ensures
