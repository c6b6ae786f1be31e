-- `are_marks`: the test of each byte.
use Rattle.std.proofs.Common.{rules, ◌∙◌}
use Rattle.std.specs.Prelude.{leb, ◌&&◌}
use Rattle.std.proofs.lemmas.Iterator.{YieldsList-from_slice}
use Rattle.std.proofs.lemmas.Iterator.Search.{all_from_yields_List}
use Rattle.line_fields.proofs.Rows.{tests-marks}
use borrow.Author.Tests.{tests}
use Rattle.line_fields.proofs.marks.are_marks.Goals as goal

pub returns : goal.returns
returns c =
    all_from_yields_List (λ b. leb 48 b && leb b 51) _ _ c.all.result c.all.ensures.ran (YieldsList-from_slice c.args.row.now c.iter.ensures.rest) (λ x b q k. search (rules, tests))
    ∙ tests-marks c.args.row.now
