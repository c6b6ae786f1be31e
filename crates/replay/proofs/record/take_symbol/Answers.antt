-- `take_symbol`: a word that is due, or what the piece answered.
use Rattle.std.proofs.Common.{◌≡◌, sym, ◌∙◌, length, rules}
use Rattle.replay_judge.specs.Judging.{heard}
use Rattle.replay.proofs.Records.{missing, none_missing, symbol-is}
use Rattle.replay.proofs.record.take_symbol.Goals as goal

pub returns-in-Some : goal.returns-in-Some
unfolding heard
returns-in-Some c = missing _ _ _ _ _ _ _ (sym c.next_due.ensures ∙ c.in-Some.is) _ c.rule.ensures

pub returns : goal.returns
unfolding heard
returns c =
    let a = c.args in
    let long : length a.picks.now ≡ 72 = search rules in
    none_missing a.j _ _ _ _ (sym c.next_due.ensures ∙ c.in_default.is) _ _
    (symbol-is _ _ _ _ _ a.k a.body _ c.mark_of-mark.ensures _ c.piece_of-piece.ensures long c.hear_piece_lent-h.result _ _ _ _ c.hear_piece_lent-h.ensures _ c.answer.ensures)
