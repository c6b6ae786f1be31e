-- `demfizagu_send`: refused, or the state written back.
use Rattle.demfizagu.proofs.Cases.{sent-refused, sent-long, sent-done}
use Rattle.demfizagu.proofs.demfizagu_send.Goals as goal

pub returns-then-n-ne0 : goal.returns-then-n-ne0
returns-then-n-ne0 c =
    let is = rw c.load_sender.ensures at c.send-a.ensures in
    sent-refused c.args.state.now c.args.word c.args.out.now _ _ _ is c.number-n.ensures c.if-n-ne0.true

pub store_sender-requires : goal.store_sender-requires
store_sender-requires c =
    let is = rw c.load_sender.ensures at c.send-a.ensures in
    sent-long c.args.state.now c.args.word c.args.out.now _ _ _ is c.number-n.ensures c.if-n-ne0.false

pub returns : goal.returns
returns c =
    let is = rw c.load_sender.ensures at c.send-a.ensures in
    sent-done c.args.state.now c.args.word c.args.out.now _ _ _ is c.number-n.ensures _ c.if-n-ne0.false c.store_sender.ensures
