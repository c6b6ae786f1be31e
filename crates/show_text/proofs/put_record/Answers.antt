-- `put_record`: number, offset, values, and the end of the line.
use Rattle.std.proofs.Common.{arith}
use Rattle.page.proofs.Pages.{joined}
use Rattle.show_text.specs.Shown.{record_line}
use Rattle.show_text.proofs.put_record.Goals as goal

pub returns-clause-puts : goal.returns-clause-puts
unfolding record_line
returns-clause-puts c =
    joined (omega arith) (joined (omega arith) (joined (omega arith) c.put_named-p.ensures.puts c.put_named-p-2.ensures.puts) c.put_values-p.ensures.puts) c.end.ensures
