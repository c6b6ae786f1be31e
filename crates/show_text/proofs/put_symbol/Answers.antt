-- `put_symbol`: the four coordinates after the head, from the place where they begin.
use Rattle.std.proofs.Common.{arith}
use Rattle.page.proofs.Pages.{joined}
use Rattle.phrases.proofs.Phrases.{puts-as}
use Rattle.show_text.proofs.Lines.{symbol-is}
use Rattle.show_text.proofs.put_symbol.Goals as goal

pub returns-clause-puts : goal.returns-clause-puts
returns-clause-puts c =
    let head = c.put_head-p.ensures in
    let first = c.put_coordinate-p.ensures in
    let second = c.put_coordinate-p-2.ensures in
    let third = c.put_coordinate-p-3.ensures in
    let one = joined (omega (arith, head.upper_bound, c.requires)) head.puts first.puts in
    let two = joined (omega (arith, head.upper_bound, first.upper_bound, c.requires)) one second.puts in
    let three = joined (omega (arith, head.upper_bound, first.upper_bound, second.upper_bound, c.requires)) two third.puts in
    let four = joined (omega (arith, head.upper_bound, first.upper_bound, second.upper_bound, third.upper_bound, c.requires)) three c.put_coordinate.ensures.puts in
    puts-as (symbol-is _ c.args.body.now _ c.lead-i.ensures.0) four
