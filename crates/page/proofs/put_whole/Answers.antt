-- `put_whole`: a minus, and the numeral of the absolute value after it.
use Rattle.std.proofs.Common.{rules}
use Rattle.page.proofs.Pages.{minus-put}
use Rattle.page.proofs.put_whole.Goals as goal

pub returns-then-x-lt0 : goal.returns-then-x-lt0
returns-then-x-lt0 c = minus-put c.args.x (search rules) (search rules) c.if-x-lt0.true (search rules) c.put_byte-p.ensures c.put_number.ensures
