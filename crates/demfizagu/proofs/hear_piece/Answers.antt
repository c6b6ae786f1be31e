-- `hear_piece`: told too short, no receiver, nothing taken, or the state written back.
use Rattle.std.proofs.Common.{rules, arith, sym, ◌∙◌, ◌≡◌, true}
use Rattle.piece_input.specs.Marks.{piece_by}
use Rattle.c_layout.specs.Layout.{receiver_length, receiver_tag}
use Rattle.c_layout.specs.Tagged.{holds}
use Rattle.c_layout.proofs.Held.{held}
use Rattle.demfizagu.proofs.Cases.{hear-short, hear-none, lent-kept, lent_written}
use Rattle.demfizagu.proofs.hear_piece.Goals as goal

pub returns-then-told-lt3 : goal.returns-then-told-lt3
returns-then-told-lt3 c =
    let a = c.args in
    hear-short a.state.now (piece_by a.marks a.piece.now) a.out.now a.told.now c.if-told-lt3.true

pub returns-then-not-holds_receiver : goal.returns-then-not-holds_receiver
returns-then-not-holds_receiver c =
    let a = c.args in
    let none = sym c.holds_receiver.ensures ∙ c.if-not-holds_receiver.true in
    hear-none a.state.now (piece_by a.marks a.piece.now) a.out.now a.told.now none c.if-told-lt3.false _ _ c.answer.ensures.0 c.answer.ensures.1

pub slice_bounds-hear_piece_lent-end : goal.slice_bounds-hear_piece_lent-end
slice_bounds-hear_piece_lent-end c =
    let k = held receiver_length receiver_tag c.args.state.now (sym c.holds_receiver.ensures ∙ c.if-not-holds_receiver.false) in omega arith

pub returns-then-a-eq0 : goal.returns-then-a-eq0
returns-then-a-eq0 c =
    let a = c.args in
    let yes : holds receiver_length receiver_tag a.state.now ≡ true = sym c.holds_receiver.ensures ∙ c.if-not-holds_receiver.false in
    lent-kept a.state.now (piece_by a.marks a.piece.now) a.out.now a.told.now yes c.load_front.result c.load_front.ensures c.hear_piece_lent-a.result _ _ _ _
    c.hear_piece_lent-a.ensures c.if-told-lt3.false _ _ c.answer-n.ensures.0 c.answer-n.ensures.1 c.if-a-eq0.true

pub returns : goal.returns
returns c =
    let a = c.args in
    let yes : holds receiver_length receiver_tag a.state.now ≡ true = sym c.holds_receiver.ensures ∙ c.if-not-holds_receiver.false in
    lent_written a.state.now (piece_by a.marks a.piece.now) a.out.now a.told.now yes c.load_front.result c.load_front.ensures c.hear_piece_lent-a.result _ _ _ _
    c.hear_piece_lent-a.ensures c.if-told-lt3.false _ _ c.answer-n.ensures.0 c.answer-n.ensures.1 _ (search rules) c.if-a-eq0.false c.store_front.ensures
