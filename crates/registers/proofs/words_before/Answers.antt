-- `words_before`: the table of what each place was given.
use Rattle.std.proofs.Common.{rules}
use Rattle.lists.proofs.Made.{made}
use Rattle.registers.specs.Registers.{word_before, words_before}
use Rattle.registers.proofs.words_before.Goals as goal

pub returns : goal.returns
unfolding words_before
returns c =
    let a = c.args in
    made _ _ (word_before a.registers.now a.steps.now a.b) 16 (λ s y q h k. search rules) _ c.from_fn.ensures.items
