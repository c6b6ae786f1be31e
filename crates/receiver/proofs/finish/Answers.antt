-- `finish`: closed, no room, or the last words.
use mathlib.Core.Path.{◌≡◌, sym, ◌∙◌}
use native.Mathlib.Omega.{arith}
use borrow.Author.Rules.{rules}
use lib.ListN.{length}
use Rattle.machine.proofs.Sound.{sound-core}
use Rattle.receiver.proofs.Doors.{finishes, finish-closed, finish-full, finish-done}
use Rattle.receiver.proofs.finish.Goals as goal

pub returns-then-not-is_open : goal.returns-then-not-is_open
returns-then-not-is_open c =
    finishes _ _ _ _ (rw c.stopped.ensures (finish-closed c.args.rx c.args.out.now (sym c.is_open.ensures ∙ c.if-not-is_open.true)))

pub returns-then-out-pending : goal.returns-then-out-pending
returns-then-out-pending c =
    finishes _ _ _ _
    (rw c.stopped-then-out-pending.ensures (finish-full c.args.rx c.args.out.now (sym c.is_open.ensures ∙ c.if-not-is_open.false) c.if-out-pending.true))

pub write_words-requires : goal.write_words-requires
write_words-requires c =
    let sized : length c.args.rx.picks ≡ 72 = search rules in
    (sound-core c.args.rx (sym c.is_open.ensures ∙ c.if-not-is_open.false), omega (arith, c.end_state-s.ensures.1), search rules, c.if-out-pending.false, sized)

pub returns : goal.returns
returns c =
    let a = c.args in
    finishes _ _ _ _
    (rw c.closed_receiver.ensures
    (finish-done a.rx a.out.now (sym c.is_open.ensures ∙ c.if-not-is_open.false) c.if-out-pending.false _ c.end_state-s.ensures.0 _ c.write_words.ensures.out_after))
