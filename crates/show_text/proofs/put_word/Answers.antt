-- `put_word`: eight hexadecimal digits after the word.
use Rattle.std.proofs.Common.{ap, ◌∙◌, ◌++◌, ℕ, arith}
use Rattle.text.specs.Bytes.{bytes}
use Rattle.page.proofs.Pages.{joined}
use Rattle.phrases.proofs.Phrases.{puts-as}
use Rattle.replay_text.specs.Says.{hex}
use Rattle.replay_text.proofs.Lines.{hex-put}
use Rattle.show_text.specs.Shown.{word_text}
use Rattle.show_text.proofs.put_word.Goals as goal

pub returns-clause-puts : goal.returns-clause-puts
unfolding word_text
returns-clause-puts c =
    let digits = c.hex-k.ensures in
    let word = hex-put _ (omega arith) digits.len digits.digits c.put_text.ensures in
    puts-as (ap (λ (n : ℕ). bytes " word " ++ hex n) (c.from.ensures ∙ c.number-w.ensures)) (joined (omega arith) c.put_text-p.ensures word)
