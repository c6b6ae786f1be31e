-- `finish_recorded`: told too short, refused, or the state written back.
use Rattle.std.proofs.Common.{length, List, ℕ, ◌≡◌}
use mathlib.Core.Path.{subst}
use Rattle.machine.specs.declared.Receiver.{Receiver}
use Rattle.reasons.specs.Reason.{given_of}
use Rattle.recorder.specs.declared.Taped.{Taped}
use Rattle.recorder.specs.Doors.{taped_finishing}
use Rattle.recorder.specs.Promise.{Is}
use Rattle.c_states.specs.State.{receiver_in}
use Rattle.c_recorder.specs.Calls.{told_four}
use Rattle.c_recorder.proofs.Cases.{Answered, finish-short, finish-kept, finish-long, finish-written}
use Rattle.c_recorder.proofs.finish_recorded.Goals as goal

-- the promise of `finish` to the receiver that the state holds, and what was told of it
answered : (state out bytes told : List ℕ) {rx : Receiver} {a : Taped} {n : ℕ} {o b t : List ℕ} → rx ≡ receiver_in state →
    Is (taped_finishing rx (length out) (length bytes)) out bytes a o b → n ≡ (given_of a.why).number → t ≡ told_four a.taken a.written (given_of a.why).place a.recorded told →
    Answered (taped_finishing (receiver_in state) (length out) (length bytes)) out bytes told a n o b t
answered state out bytes told {rx} {a} {n} {o} {b} {t} e is number tells =
    record { is = subst (λ (x : Receiver). Is (taped_finishing x (length out) (length bytes)) out bytes a o b) e is; number = number; tells = tells }

pub returns-then-told-lt4 : goal.returns-then-told-lt4
returns-then-told-lt4 c = let a = c.args in finish-short a.state.now a.out.now a.bytes.now a.told.now c.if-told-lt4.true

pub returns-then-n-ne0 : goal.returns-then-n-ne0
returns-then-n-ne0 c =
    let a = c.args in
    let w = answered a.state.now a.out.now a.bytes.now a.told.now c.load_receiver.ensures c.finish-a.ensures.always c.answer-n.ensures.0 c.answer-n.ensures.1 in
    finish-kept a.state.now a.out.now a.bytes.now a.told.now c.if-told-lt4.false _ _ _ _ _ w c.if-n-ne0.true

pub store_receiver-requires : goal.store_receiver-requires
store_receiver-requires c =
    let a = c.args in
    let w = answered a.state.now a.out.now a.bytes.now a.told.now c.load_receiver.ensures c.finish-a.ensures.always c.answer-n.ensures.0 c.answer-n.ensures.1 in
    finish-long a.state.now a.out.now a.bytes.now a.told.now c.if-told-lt4.false _ _ _ _ _ w c.if-n-ne0.false

pub returns : goal.returns
returns c =
    let a = c.args in
    let w = answered a.state.now a.out.now a.bytes.now a.told.now c.load_receiver.ensures c.finish-a.ensures.always c.answer-n.ensures.0 c.answer-n.ensures.1 in
    finish-written a.state.now a.out.now a.bytes.now a.told.now c.if-told-lt4.false _ _ _ _ _ w _ c.if-n-ne0.false c.store_receiver.ensures
