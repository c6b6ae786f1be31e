-- `demfizagu_send_list`: told too short, nothing sent, or the state written back.
use Rattle.std.proofs.Common.{arith}
use Rattle.demfizagu.proofs.Cases.{list-short, list-room, list-long, list-none, list-some}
use Rattle.demfizagu.proofs.demfizagu_send_list.Goals as goal

pub returns-then-told-lt3 : goal.returns-then-told-lt3
returns-then-told-lt3 c = let a = c.args in list-short a.state.now a.words.now a.out.now a.told.now c.if-told-lt3.true

pub overflow_mul-a : goal.overflow_mul-a
overflow_mul-a c =
    let is = rw c.load_sender.ensures at c.send_list-a.ensures in
    omega (arith, c.well_formed, list-room c.args.state.now c.args.words.now c.args.out.now c.args.told.now c.if-told-lt3.false _ _ is)

pub returns-then-a-eq0 : goal.returns-then-a-eq0
returns-then-a-eq0 c =
    let a = c.args in
    let is = rw c.load_sender.ensures at c.send_list-a.ensures in
    list-none a.state.now a.words.now a.out.now a.told.now c.if-told-lt3.false _ _ is _ _ c.number-n.ensures c.tell.ensures c.if-a-eq0.true

pub store_sender-requires : goal.store_sender-requires
store_sender-requires c =
    let a = c.args in
    list-long a.state.now a.words.now a.out.now a.told.now c.if-told-lt3.false _ _ (rw c.load_sender.ensures at c.send_list-a.ensures) c.if-a-eq0.false

pub returns : goal.returns
returns c =
    let a = c.args in
    let is = rw c.load_sender.ensures at c.send_list-a.ensures in
    list-some a.state.now a.words.now a.out.now a.told.now c.if-told-lt3.false _ _ is _ _ c.number-n.ensures c.tell.ensures _ c.if-a-eq0.false c.store_sender.ensures
