-- `put_open`: width, window and start.
use Rattle.std.proofs.Common.{ap, ◌++◌, ℕ, arith}
use Rattle.text.specs.Bytes.{bytes}
use Rattle.phrases.specs.Phrase.{decimal}
use Rattle.phrases.proofs.Phrases.{puts-as}
use Rattle.page.proofs.Pages.{joined}
use Rattle.show_text.specs.Shown.{open_text}
use Rattle.show_text.proofs.put_open.Goals as goal

pub returns-clause-puts : goal.returns-clause-puts
unfolding open_text
returns-clause-puts c =
    let start = c.put_start.ensures in
    let width = c.put_width-p.ensures in
    let window = c.put_named-p.ensures in
    let said = puts-as (ap (λ (n : ℕ). bytes " window " ++ decimal n) c.from.ensures) window.puts in
    joined (omega (arith, window.upper_bound, width.upper_bound, c.requires)) (joined (omega (arith, width.upper_bound, c.requires)) width.puts said) start.puts
