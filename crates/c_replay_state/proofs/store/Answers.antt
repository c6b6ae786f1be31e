-- `store`: the tag, the numbers, the lists and the words that are due, one behind the other.
use Rattle.std.proofs.Common.{rules, ◌≡◌, List, [], ◌∷◌, ℕ, ap, sym, ◌∙◌, arith, refl}
use Rattle.replay.specs.Course.{replay_of}
use Rattle.lists.proofs.Lent.{stored}
use Rattle.c_replay_state.specs.Table.{replay_tag, limits, within}
use Rattle.c_replay_state.proofs.WordsBack.{CourseFits, filled, all-put}
use Rattle.c_replay_state.proofs.store.Goals as goal

pub returns : goal.returns
returns c =
    let r = c.args.r in
    let l = c.args.words.now in
    let ns = c.numbers_of.ensures in
    let lists = c.put_lists.ensures in
    let due = c.widen.ensures in
    let fits : CourseFits (replay_of r) =
    record {
      numbers = ap (λ (m : List ℕ). within limits m) (sym ns.0) ∙ ns.1;
      nine = search rules;
      sums = lists.sums-fit;
      halves = lists.sums-small;
      registers = lists.registers-fit;
      picks = lists.picks-fit;
      due = search rules;
      small = due.1;
      width = search rules;
    } in
    let whole : c.widen.new.to ≡ r.due = filled r.due _ (search rules) due.0 in
    rw (whole, lists.is, c.copy_from_slice.ensures.after)
    (all-put (replay_of r) l (omega arith) fits (stored (replay_tag ∷ []) l (omega arith)) ns.0 refl refl refl)
