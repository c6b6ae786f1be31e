-- `demfizagu_finish`: told too short, refused, or the state written back.
use Rattle.demfizagu.proofs.Cases.{finish-short, finish-kept, finish-long, finish-written}
use Rattle.demfizagu.proofs.demfizagu_finish.Goals as goal

pub returns-then-told-lt3 : goal.returns-then-told-lt3
returns-then-told-lt3 c = finish-short c.args.state.now c.args.out.now c.args.told.now c.if-told-lt3.true

pub returns-then-n-ne0 : goal.returns-then-n-ne0
returns-then-n-ne0 c =
    let a = c.args in
    finish-kept a.state.now a.out.now a.told.now c.if-told-lt3.false _ _ _ _ (rw c.load_receiver.ensures at c.finish-a.ensures) c.answer-n.ensures.0
    c.answer-n.ensures.1 c.if-n-ne0.true

pub store_receiver-requires : goal.store_receiver-requires
store_receiver-requires c =
    let a = c.args in
    finish-long a.state.now a.out.now a.told.now c.if-told-lt3.false _ _ _ _ (rw c.load_receiver.ensures at c.finish-a.ensures) c.answer-n.ensures.0
    c.answer-n.ensures.1 c.if-n-ne0.false

pub returns : goal.returns
returns c =
    let a = c.args in
    finish-written a.state.now a.out.now a.told.now c.if-told-lt3.false _ _ _ _ (rw c.load_receiver.ensures at c.finish-a.ensures) c.answer-n.ensures.0
    c.answer-n.ensures.1 _ c.if-n-ne0.false c.store_receiver.ensures
