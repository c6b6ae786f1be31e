-- `put_text`: one byte more of the text.
use native.Mathlib.Numerals.{add-one}
use native.Mathlib.Omega.{arith}
use lib.ListN.{length-set}
use lib.Seq.{paste-suc}
use Rattle.page.proofs.put_text.Goals as goal

pub loop-i-preserved : goal.loop-i-preserved
loop-i-preserved c =
    let a = c.args in (
      simp length-set c.loop-i.invariant.0,
      rw (c.loop-i.invariant.1, add-one, paste-suc a.page.now a.at a.text.now c.loop-i.i 0 (omega arith) c.loop-i-test.true),
    )
