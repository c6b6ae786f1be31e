-- `store_receiver`: the picks, and then what stands before them.
use Rattle.std.proofs.Common.{rules, ◌++◌, ap, ◌∙◌, List, ℕ, drop, arith}
use Rattle.lists.proofs.Lent.{part-back}
use Rattle.c_states.proofs.Back.{front-stored}
use Rattle.c_states.proofs.store_receiver.Goals as goal

pub returns : goal.returns
returns c =
    let l = c.args.words.now in
    front-stored c.args.rx l _ c.store_front.ensures (search rules)
    (part-back l _ 62 72 (omega arith) ∙ ap (λ (ys : List ℕ). ys ++ drop 134 l) c.copy_from_slice.ensures.after)
