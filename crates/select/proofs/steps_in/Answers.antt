-- `steps_in`: the table of what each place was given.
use Rattle.std.proofs.Common.{ℕ, ◌%◌, get_or, ◌∙◌, rules}
use Rattle.lists.proofs.Made.{made}
use Rattle.select.proofs.Lists.{sixteen-made}
use Rattle.select.proofs.steps_in.Goals as goal

pub returns : goal.returns
returns c =
    let f : ℕ → ℕ = λ s. get_or c.args.keys.now s 0 % 128 in
    made _ _ f 16 (λ s y q h k. search rules) _ c.from_fn.ensures.items ∙ sixteen-made f
