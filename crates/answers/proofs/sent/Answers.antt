-- `sent`: the number alone, or with the four coordinates.
use Rattle.std.proofs.Common.{rules, arith, ap, pos, get_or}
use Rattle.page.proofs.Pages.{joined}
use Rattle.phrases.specs.Phrase.{decimal}
use Rattle.phrases.proofs.Phrases.{puts-as, says-number, says-pair, pair-near}
use Rattle.answers.proofs.Answers.{not-sent, few-sent, all-sent}
use Rattle.answers.proofs.sent.Goals.{then-n-ne0-via-then-n-ne0, then-n-ne0-via-else-n-ne0+then-out-lt4}
use Rattle.answers.proofs.sent.Goals as goal

pub returns-then-n-ne0 : goal.returns-then-n-ne0
returns-then-n-ne0 c =
    let put = joined (omega arith) (puts-as (ap decimal c.from.ensures) (says-number c.put_number-p.ensures)) c.end.ensures in
    elim c.then-n-ne0.branch [
      | then-n-ne0-via-then-n-ne0 w ↦ puts-as (not-sent c.args.n c.args.out.now w.if-n-ne0.true) put
      | then-n-ne0-via-else-n-ne0+then-out-lt4 w ↦ puts-as (few-sent c.args.n c.args.out.now w.if-n-ne0.false w.if-out-lt4.true) put
    ]

pub next_pair-p-requires-2 : goal.next_pair-p-requires-2
next_pair-p-requires-2 c = omega (arith, pair-near _ _ c.next_pair-p.ensures)

pub end-requires-2 : goal.end-requires-2
end-requires-2 c = omega (arith, pair-near _ _ c.next_pair-p.ensures, pair-near _ _ c.next_pair-p-2.ensures)

pub returns : goal.returns
returns c =
    let out = c.args.out.now in
    let near-1 = pair-near _ _ c.next_pair-p.ensures in
    let near-2 = pair-near _ _ c.next_pair-p-2.ensures in
    puts-as (all-sent c.args.n out c.if-n-ne0.false c.if-out-lt4.false)
    (joined (omega arith)
    (joined (omega arith)
    (joined (omega (arith, c.put_number-p.ensures.near)) (puts-as (ap decimal c.from.ensures) (says-number c.put_number-p.ensures)) (says-pair (get_or out 0 (pos 0)) (get_or out 1 (pos 0))
    (search rules) (search rules) c.next_pair-p.ensures))
    (says-pair (get_or out 2 (pos 0)) (get_or out 3 (pos 0)) (search rules) (search rules) c.next_pair-p-2.ensures))
    c.end-2.ensures)
