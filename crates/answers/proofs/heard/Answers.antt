-- `heard`: the counts, the reason, the words and the end of the line.
use Rattle.std.proofs.Common.{arith}
use Rattle.page.proofs.Pages.{joined}
use Rattle.answers.specs.Answer.{heard_line}
use Rattle.phrases.specs.Phrase.{said_text}
use Rattle.phrases.proofs.Phrases.{counts-near, reason-near, said-near}
use Rattle.answers.proofs.heard.Goals as goal

pub reason-p-requires : goal.reason-p-requires
reason-p-requires c = omega (arith, counts-near _ _ c.counts-p.ensures)

pub said-p-requires : goal.said-p-requires
said-p-requires c = omega (arith, counts-near _ _ c.counts-p.ensures, reason-near _ c.reason-p.ensures)

pub end-requires : goal.end-requires
unfolding said_text
end-requires c =
    omega (
      arith,
      counts-near _ _ c.counts-p.ensures,
      reason-near _ c.reason-p.ensures,
      said-near c.args.written.now c.said-p.ensures,
    )

pub returns : goal.returns
unfolding heard_line said_text
returns c =
    let counted = counts-near _ _ c.counts-p.ensures in
    let reasoned = reason-near _ c.reason-p.ensures in
    let told = said-near c.args.written.now c.said-p.ensures in
    joined (omega arith) (joined (omega arith) (joined (omega arith) c.counts-p.ensures c.reason-p.ensures) c.said-p.ensures) c.end.ensures
