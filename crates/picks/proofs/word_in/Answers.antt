-- `word_in`.
use Rattle.std.proofs.Common.{ℕ, ap, ◌∙◌}
use Rattle.picks.specs.Picks.{symbol_by, said_of, numbers_at}
use Rattle.picks.proofs.word_in.Goals as goal

pub returns : goal.returns
returns c =
    let a = c.args in
    c.word_by.ensures ∙ ap (λ (i : ℕ). said_of a.u a.turn (symbol_by a.u i (numbers_at a.picks.now a.slot) a.k)) c.type_at-i3.ensures.0
