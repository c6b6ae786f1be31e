-- `hear_piece`: told too short, no receiver, nothing taken, or the state written back.
use Rattle.std.proofs.Common.{rules, arith, sym, ◌∙◌}
use Rattle.piece_input.specs.Marks.{piece_by}
use Rattle.c_layout.specs.Layout.{receiver_length, receiver_tag}
use Rattle.c_layout.proofs.Held.{held}
use Rattle.c_recorder.proofs.Cases.{Lent, hear-short, hear-none, lent-kept, lent_written}
use Rattle.c_recorder.proofs.hear_piece.Goals as goal

pub returns-then-told-lt4 : goal.returns-then-told-lt4
returns-then-told-lt4 c =
    let a = c.args in
    hear-short a.state.now (piece_by a.marks a.piece.now) a.out.now a.bytes.now a.told.now c.if-told-lt4.true

pub returns-then-not-holds_receiver : goal.returns-then-not-holds_receiver
returns-then-not-holds_receiver c =
    let a = c.args in
    let none = sym c.holds_receiver.ensures ∙ c.if-not-holds_receiver.true in
    hear-none a.state.now (piece_by a.marks a.piece.now) a.out.now a.bytes.now a.told.now none c.if-told-lt4.false _ _ c.answer.ensures.0 c.answer.ensures.1

pub slice_bounds-hear_piece_lent-end : goal.slice_bounds-hear_piece_lent-end
slice_bounds-hear_piece_lent-end c =
    let k = held receiver_length receiver_tag c.args.state.now (sym c.holds_receiver.ensures ∙ c.if-not-holds_receiver.false) in omega arith

pub returns-then-a-eq0 : goal.returns-then-a-eq0
returns-then-a-eq0 c =
    let a = c.args in
    let lent : Lent a.state.now (piece_by a.marks a.piece.now) a.out.now a.bytes.now a.told.now =
    record {
      yes = sym c.holds_receiver.ensures ∙ c.if-not-holds_receiver.false;
      enough = c.if-told-lt4.false;
      copied = c.load_front.result;
      loaded = c.load_front.ensures;
      kept = c.hear_piece_lent-a.result;
      sums = c.hear_piece_lent-a.new.sums;
      registers = c.hear_piece_lent-a.new.registers;
      picks = c.hear_piece_lent-a.new.picks;
      o = _;
      b = _;
      was = c.hear_piece_lent-a.ensures;
      t = _;
      n = c.answer-n.result;
      number = c.answer-n.ensures.0;
      tells = c.answer-n.ensures.1;
    } in
    lent-kept _ _ _ _ _ lent c.if-a-eq0.true

pub returns : goal.returns
returns c =
    let a = c.args in
    let lent : Lent a.state.now (piece_by a.marks a.piece.now) a.out.now a.bytes.now a.told.now =
    record {
      yes = sym c.holds_receiver.ensures ∙ c.if-not-holds_receiver.false;
      enough = c.if-told-lt4.false;
      copied = c.load_front.result;
      loaded = c.load_front.ensures;
      kept = c.hear_piece_lent-a.result;
      sums = c.hear_piece_lent-a.new.sums;
      registers = c.hear_piece_lent-a.new.registers;
      picks = c.hear_piece_lent-a.new.picks;
      o = _;
      b = _;
      was = c.hear_piece_lent-a.ensures;
      t = _;
      n = c.answer-n.result;
      number = c.answer-n.ensures.0;
      tells = c.answer-n.ensures.1;
    } in
    lent_written _ _ _ _ _ lent _ (search rules) c.if-a-eq0.false c.store_front.ensures
